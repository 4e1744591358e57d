-- The operators, each with its mark and with the node that it makes.
use Rattle.std.specs.Prelude.{ℕ, Bool, false, ◌==◌, if◌then◌else◌, List, [], ◌∷◌, Option, Some, None}
use Rattle.c_tree.specs.declared.expression.Expr.{Expr}
use Rattle.c_tree.specs.declared.expression.ExprKind.{ExprKind}
use Rattle.c_tree.specs.declared.expression.ExprKind.TheVariants as e
use Rattle.c_tree.specs.declared.lexeme.LexemeKind.{LexemeKind}
use Rattle.c_tree.specs.declared.lexeme.LexemeKind.TheVariants as k
use Rattle.c_values.specs.declared.operator.Cmp.TheVariants.{Lt, Le, Gt, Ge, Eq, Ne}
use Rattle.c_values.specs.declared.operator.Op.{Op}
use Rattle.c_values.specs.declared.operator.Op.TheVariants.{Add, Sub, Mul, Div, Rem, Shl, Shr, And, Or, Xor}
use Rattle.c_values.specs.declared.operator.UnOp.TheVariants.{Neg, Not}
use Rattle.c_grammar.specs.Marks as m

-- what a table has for a number
abbrev pub found : {A : Type 0} → List (ℕ × A) → ℕ → Option A
found [] n = None
found (entry ∷ others) n = if entry.0 == n then Some entry.1 else found others n

-- and for a punctuator
abbrev pub found_for : {A : Type 0} → List (ℕ × A) → LexemeKind → Option A
found_for table (k.Mark n) = found table n
found_for table _ = None

-- how tight a binary operator binds, and the node that it makes
pub record Binary : Type 0 where
  pub level : ℕ
  pub node : Expr → Expr → ExprKind

abbrev pub binary : ℕ → ℕ → (Expr → Expr → ExprKind) → ℕ × Binary
binary mark level node = (mark, record { level = level; node = node })

-- the binary operators, from the tightest level at 0 (ISO/IEC 9899:1999, 6.5.5) to the loosest at 9 (6.5.14)
abbrev pub binary_operators : List (ℕ × Binary)
binary_operators =
    binary m.asterisk 0 (e.Binary Mul) ∷ binary m.slash 0 (e.Binary Div) ∷ binary m.percent 0 (e.Binary Rem) ∷
    binary m.plus 1 (e.Binary Add) ∷ binary m.minus 1 (e.Binary Sub) ∷
    binary m.shift_left 2 (e.Binary Shl) ∷ binary m.shift_right 2 (e.Binary Shr) ∷
    binary m.less 3 (e.Compare Lt) ∷ binary m.greater 3 (e.Compare Gt) ∷
    binary m.less_equal 3 (e.Compare Le) ∷ binary m.greater_equal 3 (e.Compare Ge) ∷
    binary m.equal_equal 4 (e.Compare Eq) ∷ binary m.not_equal 4 (e.Compare Ne) ∷
    binary m.ampersand 5 (e.Binary And) ∷ binary m.caret 6 (e.Binary Xor) ∷ binary m.bar 7 (e.Binary Or) ∷
    binary m.and_and 8 e.Both ∷ binary m.or_or 9 e.Either ∷ []

-- the unary operators (6.5.3) other than `++`, `--` and `sizeof`
abbrev pub unary_operators : List (ℕ × (Expr → ExprKind))
unary_operators =
    (m.ampersand, e.AddressOf) ∷ (m.asterisk, e.Deref) ∷ (m.plus, e.Plus) ∷ (m.minus, e.Unary Neg) ∷ (m.tilde, e.Unary Not) ∷
    (m.exclamation, e.Negate) ∷ []

-- the assignment operators (6.5.16), the compound ones with what they apply
abbrev pub assignment_operators : List (ℕ × Option Op)
assignment_operators =
    (m.equal, None) ∷ (m.times_equal, Some Mul) ∷ (m.over_equal, Some Div) ∷ (m.remainder_equal, Some Rem) ∷ (m.plus_equal, Some Add) ∷
    (m.minus_equal, Some Sub) ∷ (m.shift_left_equal, Some Shl) ∷ (m.shift_right_equal, Some Shr) ∷ (m.and_equal, Some And) ∷
    (m.xor_equal, Some Xor) ∷ (m.or_equal, Some Or) ∷ []

-- whether an operator is at a level
abbrev pub is_at_level : ℕ → Option Binary → Bool
is_at_level n None = false
is_at_level n (Some operator) = operator.level == n
