-- Where postfix operators begin (ISO/IEC 9899:1999, 6.5.2).
use Rattle.std.specs.Prelude.{ℕ, List, [], ◌∷◌}
use Rattle.c_grammar.specs.Marks as m
use Rattle.c_grammar.specs.Terminals.{Terminal}
use Rattle.c_grammar.specs.Terminals as w
use Rattle.c_grammar.specs.Tokens.{is_mark_of}

-- the punctuators with which one begins
abbrev pub operator_marks : List ℕ
operator_marks = m.left_bracket ∷ m.left_parenthesis ∷ m.period ∷ m.arrow ∷ m.plus_plus ∷ m.minus_minus ∷ []

abbrev pub begins_operator : Terminal
begins_operator = w.terminal (λ s t. is_mark_of operator_marks t.kind) w.unchanged
