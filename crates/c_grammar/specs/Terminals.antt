-- The terminals of the grammar: each a test of a token in a state, and the state after the token.
use Rattle.std.specs.Prelude.{ℕ, Bool, not, ◌&&◌, ◌||◌, is_some, [], ◌∷◌}
use Rattle.c_tree.specs.declared.lexeme.Lexeme.{Lexeme}
use Rattle.c_grammar.specs.Marks as m
use Rattle.c_grammar.specs.Operators.{found_for, is_at_level, binary_operators, unary_operators, assignment_operators}
use Rattle.c_grammar.specs.State.{State, frame, names_type, read, is_unary, deepen, see_typedef, see_type, hold, enter_loop}
use Rattle.c_grammar.specs.Tokens.{is_mark, is_mark_of, is_word, is_word_of, is_name, is_number, is_character, is_text, is_end, name_of}
use Rattle.c_grammar.specs.Words as d

pub record Terminal : Type 0 where
  pub fits : State → Lexeme → Bool
  pub after : State → Lexeme → State

-- a terminal by its test, and by what it changes beside what reading any token does
abbrev pub terminal : (State → Lexeme → Bool) → (Lexeme → State → State) → Terminal
terminal fits change = record { fits = fits; after = λ s t. change t (read s) }

abbrev pub unchanged : Lexeme → State → State
unchanged t s = s

-- a token of this kind, whatever the state is
abbrev pub mark : ℕ → Terminal
mark n = terminal (λ s t. is_mark n t.kind) unchanged

abbrev pub word : ℕ → Terminal
word n = terminal (λ s t. is_word n t.kind) unchanged

-- an operator behind its operand, which becomes one deeper
abbrev pub operator : Terminal → Terminal
operator w = record { fits = w.fits; after = λ s t. deepen (w.after s t) }

-- the last token of a unary expression
abbrev pub closing : Terminal → Terminal
closing w = record { fits = w.fits; after = λ s t. is_unary (w.after s t) }

-- any name: a member (ISO/IEC 9899:1999, 6.5.2.3, 6.7.8) or a tag (6.7.2.3)
abbrev pub any_name : Terminal
any_name = terminal (λ s t. is_name t.kind) unchanged

-- ---- expressions (6.5)
-- a name of an object, a function or an enumeration constant (6.5.1): no typedef name
abbrev pub value_name : Terminal
value_name = closing (terminal (λ s t. is_name t.kind && not (names_type s.scopes (name_of t))) unchanged)

abbrev pub number : Terminal
number = closing (terminal (λ s t. is_number t.kind) unchanged)

abbrev pub character : Terminal
character = closing (terminal (λ s t. is_character t.kind) unchanged)

abbrev pub text : Terminal
text = closing (terminal (λ s t. is_text t.kind) unchanged)

-- `++` and `--` (6.5.2.4, 6.5.3.1)
abbrev pub bump : Terminal
bump = terminal (λ s t. is_mark_of (m.plus_plus ∷ m.minus_minus ∷ []) t.kind) unchanged

abbrev pub unary_operator : Terminal
unary_operator = terminal (λ s t. is_some (found_for unary_operators t.kind)) unchanged

abbrev pub binary_operator : ℕ → Terminal
binary_operator n = operator (terminal (λ s t. is_at_level n (found_for binary_operators t.kind)) unchanged)

-- only a unary expression is assigned to (6.5.16)
abbrev pub assignment_operator : Terminal
assignment_operator = operator (terminal (λ s t. s.unary && is_some (found_for assignment_operators t.kind)) unchanged)

-- ---- declarations (6.7)
abbrev pub typedef : Terminal
typedef = terminal (λ s t. is_word d.typedef_word t.kind) (λ t s. see_typedef s)

-- the other storage classes (6.7.1), qualifiers (6.7.3) and `inline` (6.7.4)
abbrev pub plain_specifier : Terminal
plain_specifier = terminal (λ s t. is_word_of (d.extern_word ∷ d.static_word ∷ d.auto_word ∷ d.register_word ∷ d.const_word ∷ d.volatile_word
    ∷ d.restrict_word ∷ d.inline_word ∷ []) t.kind) unchanged

-- the words of the basic types that the profile has (6.7.2)
abbrev pub type_word : Terminal
type_word = terminal (λ s t. is_word_of (d.void_word ∷ d.char_word ∷ d.short_word ∷ d.int_word ∷ d.long_word ∷ d.signed_word
    ∷ d.unsigned_word ∷ d.bool_word ∷ []) t.kind) (λ t s. see_type s)

-- `struct` or `union` (6.7.2.1), and `enum` (6.7.2.2)
abbrev pub record_word : Terminal
record_word = terminal (λ s t. is_word_of (d.struct_word ∷ d.union_word ∷ []) t.kind) (λ t s. see_type s)

abbrev pub enumeration_word : Terminal
enumeration_word = terminal (λ s t. is_word d.enum_word t.kind) (λ t s. see_type s)

-- a typedef name as a type word (6.7.7), where the list has none before it
abbrev pub typedef_name : Terminal
typedef_name = terminal (λ s t. is_name t.kind && names_type s.scopes (name_of t) && not (frame s).has_type) (λ t s. see_type s)

abbrev pub qualifier : Terminal
qualifier = terminal (λ s t. is_word_of (d.const_word ∷ d.volatile_word ∷ d.restrict_word ∷ []) t.kind) unchanged

-- the name that a declarator declares (6.7.5): no typedef name directly behind specifiers without a type word, where it is one itself
abbrev pub declared_name : Terminal
declared_name = terminal (λ s t. is_name t.kind && ((frame s).has_type || not (names_type s.scopes (name_of t)))) (λ t s. hold (name_of t) s)

-- the same directly behind a `(` in a parameter's declarator: there a typedef name begins a parameter list (6.7.5.3)
abbrev pub grouped_name : Terminal
grouped_name = terminal (λ s t. is_name t.kind && not (names_type s.scopes (name_of t))) (λ t s. hold (name_of t) s)

-- an enumeration constant (6.7.2.2)
abbrev pub enumerator_name : Terminal
enumerator_name = terminal (λ s t. is_name t.kind) (λ t s. hold (name_of t) s)

-- ---- statements (6.8)
-- an `else` belongs to the nearest `if` (6.8.4.1), so none follows a statement that ends with an `if` without one
abbrev pub else : Terminal
else = terminal (λ s t. is_word d.else_word t.kind && not s.dangling) unchanged

-- the keyword of a loop (6.8.5)
abbrev pub loop_word : ℕ → Terminal
loop_word n = terminal (λ s t. is_word n t.kind) (λ t s. enter_loop s)

abbrev pub end : Terminal
end = terminal (λ s t. is_end t.kind) unchanged
