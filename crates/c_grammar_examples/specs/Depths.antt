-- Files whose nesting is three nodes deep at `sizeof`, and what a limit of so many nodes makes of them.
use Rattle.std.specs.Prelude.{ℕ, Bool, nat_lt, max, List, [], ◌∷◌, ◌++◌}
use Rattle.c_tree.specs.declared.lexeme.Lexeme.{Lexeme}
use Rattle.c_tree.specs.declared.lexeme.LexemeKind.TheVariants as k
use Rattle.c_values.specs.declared.int_type.IntType.TheVariants.{Int}
use Rattle.c_grammar.specs.Marks as m
use Rattle.c_grammar.specs.State.{State}
use Rattle.c_grammar.specs.Words as d
use Rattle.c_grammar_examples.specs.Rows.{lexeme, in_a_row}

abbrev pub greatest : List ℕ → ℕ
greatest [] = 0
greatest (n ∷ ns) = max n (greatest ns)

-- a token was read that makes the nesting pass this limit
abbrev pub nests_past : ℕ → State → Bool
nests_past limit s = nat_lt limit (greatest s.nesting.deepest)

-- int main(void){ return sizeof
abbrev pub up_to_sizeof : List Lexeme
up_to_sizeof = in_a_row 0 (k.Word d.int_word ∷ k.Name 0 ∷ k.Mark m.left_parenthesis ∷ k.Word d.void_word ∷ k.Mark m.right_parenthesis ∷
    k.Mark m.left_brace ∷ k.Word d.return_word ∷ k.Word d.sizeof_word ∷ [])

-- and then (
abbrev pub opening : Lexeme
opening = lexeme 8 (k.Mark m.left_parenthesis)

-- and then int); }
abbrev pub type_behind : List Lexeme
type_behind = in_a_row 9 (k.Word d.int_word ∷ k.Mark m.right_parenthesis ∷ k.Mark m.semicolon ∷ k.Mark m.right_brace ∷ k.End ∷ [])

-- or x); }
abbrev pub name_behind : List Lexeme
name_behind = in_a_row 9 (k.Name 1 ∷ k.Mark m.right_parenthesis ∷ k.Mark m.semicolon ∷ k.Mark m.right_brace ∷ k.End ∷ [])

-- or int)
abbrev pub up_to_sum : List Lexeme
up_to_sum = up_to_sizeof ++ opening ∷ in_a_row 9 (k.Word d.int_word ∷ k.Mark m.right_parenthesis ∷ [])

-- and then +
abbrev pub plus : Lexeme
plus = lexeme 11 (k.Mark m.plus)

-- and then 1; }
abbrev pub one_behind : List Lexeme
one_behind = in_a_row 12 (k.Number 1 Int ∷ k.Mark m.semicolon ∷ k.Mark m.right_brace ∷ k.End ∷ [])
