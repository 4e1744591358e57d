-- The constructs of C that the profile leaves out by name, and the token that shows one: where no file goes on with the token, it is
-- refused with this code, and as a fault of syntax where it shows none.
use Rattle.std.specs.Prelude.{◌≡◌, ℕ, true, false, List, [], ◌∷◌, ◌++◌}
use Rattle.c_tree.specs.declared.lexeme.Lexeme.{Lexeme}
use Rattle.c_tree.specs.declared.lexeme.LexemeKind.TheVariants as k
use Rattle.c_grammar.specs.Derives.{Reaches}
use Rattle.c_grammar.specs.Files.{ReachesInFile}
use Rattle.c_grammar.specs.Items.{Sym, Shape, sym as symbol}
use Rattle.c_grammar.specs.Marks as m
use Rattle.c_grammar.specs.State.{State, names_type}
use Rattle.c_grammar.specs.Tokens.{is_mark, is_mark_of, is_word, is_word_of, is_name, name_of}
use Rattle.c_grammar.specs.Words as d

-- behind these tokens, a token before those shows the construct with this code
pub data Shows (before : List Lexeme) (t : Lexeme) (behind : List Lexeme) : ℕ → Type 0 where
  -- floating types and complex types (ISO/IEC 9899:1999, 6.7.2)
  floating : is_word_of (d.float_word ∷ d.double_word ∷ []) t.kind ≡ true → Shows before t behind 1
  complex : is_word_of (d.complex_word ∷ d.imaginary_word ∷ []) t.kind ≡ true → Shows before t behind 2
  -- `goto` (6.8.6.1), and a label (6.8.1): a `:` behind a name that begins a statement
  goto : is_word d.goto_word t.kind ≡ true → Shows before t behind 5
  label : (front : List Lexeme) (name : Lexeme) (more : List Shape) (s : State) → before ≡ front ++ name ∷ [] → is_name name.kind ≡ true
      → ReachesInFile front (symbol Sym.AnyStatement ∷ more) s → is_mark m.colon t.kind ≡ true → Shows before t behind 5
  -- a bit-field (6.7.2.1): a `:` behind the declarator of a member
  bit_field : (more : List Shape) (s : State) → ReachesInFile before (symbol Sym.MoreDeclarators ∷ more) s
      → is_mark m.colon t.kind ≡ true → Shows before t behind 6
  -- a compound literal (6.5.2.5): a `{` behind a type name in parentheses
  compound_literal : (front name : List Lexeme) (more : List Shape) (s end : State) → before ≡ front ++ name
      → ReachesInFile front (symbol Sym.TypeInParentheses ∷ more) s → Reaches (symbol Sym.TypeInParentheses ∷ []) s name [] end
      → is_mark m.left_brace t.kind ≡ true → Shows before t behind 8
  -- a word of GNU C
  extension : t.kind ≡ k.Extension → Shows before t behind 9
  -- a definition of the old style (6.9.1): a name, no typedef name, that begins a parameter before a `,` or `)`
  old_style : (more : List Shape) (s : State) (next : Lexeme) (others : List Lexeme) → ReachesInFile before (symbol Sym.Parameter ∷ more) s
      → is_name t.kind ≡ true → names_type s.scopes (name_of t) ≡ false → behind ≡ next ∷ others
      → is_mark_of (m.comma ∷ m.right_parenthesis ∷ []) next.kind ≡ true → Shows before t behind 11
