-- A view that fits the first function of the worked program, and what becomes of it by one change. The function is called with 0 to 9.
use Rattle.std.specs.Prelude.{true, pos, neg_ℤ, [], ◌∷◌, Some, None}
use Rattle.c_values.specs.declared.int_type.IntType.TheVariants as types
use Rattle.core_ir.specs.declared.artifacts.WritePart.{WritePart}
use Rattle.core_ir.specs.declared.steps.Leaf.TheVariants as leaves
use Rattle.core_ir.specs.Plain.{PlainBounds}
use Rattle.core_ir.specs.Views.{PlainCallee, PlainClass, PlainView}

-- the external function, which has the number after those of the two defined ones
abbrev pub external : PlainCallee
external = record { callee = 2; kind = 2; external = true; parameters = 0; ranges = []; result_register = None; clusters = []; result = None }

-- the object whose address the function takes
abbrev pub object : PlainClass
object = record { class = 12; length = 4; leaves = record { class = 9; leaf = leaves.Int types.Int; rivals = [] } ∷ []; layouts = [] }

abbrev pub numbers : WritePart
numbers = record { class = 9; low = neg_ℤ (pos 2147483648); high = pos 2147483647 }

abbrev pub zero_to_nine : PlainBounds
zero_to_nine = record { size = 1; entries = Some (pos 9) ∷ Some (pos 0) ∷ [] }

abbrev pub worked_view : PlainView
worked_view = record {
  context = Some (zero_to_nine ∷ []);
  sets = [] ∷ [] ∷ [] ∷ (12 ∷ []) ∷ (12 ∷ []) ∷ (12 ∷ []) ∷ [] ∷ [];
  clusters = (0 ∷ 1 ∷ []) ∷ (2 ∷ 6 ∷ []) ∷ (3 ∷ []) ∷ (4 ∷ []) ∷ (5 ∷ []) ∷ [];
  callees = external ∷ [];
  leaves = numbers ∷ [];
  classes = object ∷ [];
}

-- ---- one change

abbrev pub without_callee : PlainView
without_callee = record worked_view { callees = [] }

abbrev pub without_object : PlainView
without_object = record worked_view { classes = [] }

abbrev pub in_two_clusters : PlainView
in_two_clusters = record worked_view { clusters = (0 ∷ 1 ∷ []) ∷ (1 ∷ 2 ∷ 6 ∷ []) ∷ (3 ∷ []) ∷ (4 ∷ []) ∷ (5 ∷ []) ∷ [] }

-- the argument is above its type
abbrev pub beyond_range : PlainView
beyond_range = record worked_view { context = Some (record { size = 1; entries = Some (pos 2147483648) ∷ Some (pos 0) ∷ [] } ∷ []) }

-- nothing is said of the argument from below
abbrev pub without_bound : PlainView
without_bound = record worked_view { context = Some (record { size = 1; entries = Some (pos 9) ∷ None ∷ [] } ∷ []) }
