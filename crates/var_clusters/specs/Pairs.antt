-- The pairs of registers of a function that may share a cluster, in the order of its text.
use Rattle.std.specs.Prelude.{ℕ, Bool, false, cond, ◌==◌, List, [], ◌∷◌, ◌++◌, length, Option, Some, None}
use Rattle.std.specs.List.{filter, filter_map, flat_map, list_any, range_with_len, slice_get}
use Rattle.c_values.specs.declared.operator.Op.TheVariants.{Add, Sub}
use Rattle.core_ir.specs.declared.program.Function.{Function}
use Rattle.core_ir.specs.declared.program.Register.{Register}
use Rattle.core_ir.specs.declared.steps.Cond.{Cond}
use Rattle.core_ir.specs.declared.steps.Cond.TheVariants as conditions
use Rattle.core_ir.specs.declared.steps.Operand.{Operand}
use Rattle.core_ir.specs.declared.steps.Operand.TheVariants.{Reg, Const}
use Rattle.core_ir.specs.declared.steps.Step as s
use Rattle.core_ir.specs.declared.steps.Step.{Step}
use Rattle.core_ir.specs.declared.steps.Value.{Value}
use Rattle.core_ir.specs.declared.steps.Value.TheVariants as values
use Rattle.core_ir.specs.Order.{row_order, text_order}

abbrev pub Pair : Type 0
Pair = ℕ × ℕ

abbrev pub register_of : Operand → Option ℕ
register_of (Reg r) = Some r
register_of (Const c) = None

-- where just one of two operands is a register, that register
abbrev pub only_one : Option ℕ → Option ℕ → Option ℕ
only_one (Some r) None = Some r
only_one None (Some r) = Some r
only_one _ _ = None

-- the register that a copy, a conversion, or a sum or difference with a constant takes
abbrev pub source : Value → Option ℕ
source (values.Copy a) = register_of a
source (values.Convert t a) = register_of a
source (values.Binary Add t a b) = only_one (register_of a) (register_of b)
source (values.Binary Sub t a b) = only_one (register_of a) (register_of b)
source _ = None

-- the register into which a step puts something
abbrev pub target : Step → Option ℕ
target (s.Set to value) = Some to
target (s.Sum to base index size) = Some to
target (s.Sub to address part) = Some to
target (s.Load to address leaf volatile) = Some to
target (s.Call to callee args) = to
target _ = None

abbrev pub is_named_register : Option Register → Bool
is_named_register None = false
is_named_register (Some x) = x.named

abbrev pub is_named : List Register → ℕ → Bool
is_named registers r = is_named_register (slice_get registers r)

abbrev pub kept_if : (ℕ → Bool) → Option ℕ → Option ℕ
kept_if test None = None
kept_if test (Some r) = cond (test r) (Some r) None

-- the named register into which a step puts something
abbrev pub named_target : List Register → Step → Option ℕ
named_target registers x = kept_if (is_named registers) (target x)

-- the named registers that the steps put something into, in the order of their numbers
abbrev pub assigned : List Register → List Step → List ℕ
assigned registers steps = filter (λ r. list_any (λ q. r == q) (filter_map (named_target registers) steps)) (range_with_len 0 (length registers))

abbrev pub paired : Option ℕ → Option ℕ → List Pair
paired (Some a) (Some b) = (a, b) ∷ []
paired _ _ = []

-- each of the registers with the next; the first with the one before it, if there is one
abbrev pub neighbours_after : Option ℕ → List ℕ → List Pair
neighbours_after last [] = []
neighbours_after last (r ∷ rest) = paired last (Some r) ++ neighbours_after (Some r) rest

abbrev pub condition_pairs : Cond → List Pair
condition_pairs (conditions.Ints c a b) = paired (register_of a) (register_of b)
condition_pairs _ = []

-- a pointer sum with a constant index has its base
abbrev pub base_of : ℕ → Operand → Option ℕ
base_of base (Const c) = Some base
base_of base (Reg r) = None

abbrev pub operand_register : Option Operand → Option ℕ
operand_register None = None
operand_register (Some a) = register_of a

abbrev pub argument_pairs : Option ℕ → List Operand → List Pair
argument_pairs to args = flat_map (λ a. paired to (register_of a)) args

-- the pairs of a step itself: of a loop the named registers that its body puts something into, each with the next; of a value the
-- target and the source; of a condition on integers both; of a call the result and each argument; of a return the result and it
abbrev pub step_pairs : List Register → Option ℕ → Step → List Pair
step_pairs registers result (s.Set to value) = paired (Some to) (source value)
step_pairs registers result (s.Sum to base index size) = paired (Some to) (base_of base index)
step_pairs registers result (s.Call to callee args) = argument_pairs to args.items
step_pairs registers result (s.If' cond n first m second) = condition_pairs cond
step_pairs registers result (s.Loop' n body) = neighbours_after None (assigned registers (row_order body))
step_pairs registers result (s.Return value) = paired result (operand_register value)
step_pairs registers result _ = []

abbrev pub pairs : Function → List Pair
pairs f = flat_map (step_pairs f.registers.items f.result) (text_order f.body.items)
