-- Facts that fit steps of the worked program, and what becomes of them by one change.
use Rattle.std.specs.Prelude.{ℕ, ◌+◌, ◌^◌, true, false, pos, neg_ℤ, List, [], ◌∷◌, ◌++◌, replicate, Some, None}
use Rattle.c_values.specs.declared.int_type.IntType.TheVariants as types
use Rattle.core_ir.specs.declared.artifacts.WritePart.{WritePart}
use Rattle.core_ir.specs.declared.steps.Callee.TheVariants.{Through, External}
use Rattle.core_ir.specs.declared.steps.Leaf.TheVariants as leaves
use Rattle.core_ir.specs.declared.steps.Operand.TheVariants.{Reg, Const}
use Rattle.core_ir.specs.declared.steps.Value.TheVariants as values
use Rattle.core_ir.specs.Plain.{PlainBounds}
use Rattle.core_ir.specs.Programs.{PlainLayout}
use Rattle.core_ir.specs.Steps.{PlainStep, Set, Load, CopyObject, Begin, Call}
use Rattle.core_ir.specs.Views.{PlainCallee, PlainClass, PlainFacts, PlainLeaf}
use Rattle.core_ir.specs.WorkedView.{external, object, zero_to_nine}

-- ---- the steps, all but the last two of the second function

-- fp(i)
abbrev pub call_of_pick : PlainStep
call_of_pick = Call (Some 22) (Through 21 0) (Reg 0 ∷ [])

-- s1 = s2
abbrev pub copy : PlainStep
copy = CopyObject 10 11 5

-- s1.p
abbrev pub load_of_member : PlainStep
load_of_member = Load 19 18 leaves.Pointer false

-- i = 0
abbrev pub step_alone : PlainStep
step_alone = Set 0 (values.Copy (Const (pos 0)))

-- of the first function: ext(&t), and the start of the block of t
abbrev pub call_of_external : PlainStep
call_of_external = Call None (External 0) (Reg 4 ∷ [])

abbrev pub start_of_block : PlainStep
start_of_block = Begin 12 false

-- ---- facts of the second function

-- registers 10 and 11 have the addresses of s1 and s2, 18 that of s1.p, and 21 that of the first function
abbrev pub main_sets : List (List ℕ)
main_sets = replicate 10 [] ++ (5 ∷ []) ∷ (8 ∷ []) ∷ replicate 6 [] ++ (6 ∷ []) ∷ [] ∷ [] ∷ (2147483648 ∷ []) ∷ [] ∷ []

abbrev pub zero_to_eighteen : PlainBounds
zero_to_eighteen = record { size = 1; entries = Some (pos 18) ∷ Some (pos 0) ∷ [] }

-- the first function, called with 0 to 9, returns 0 to 18
abbrev pub pick_part : PlainCallee
pick_part = record {
  callee = 0;
  kind = 0;
  external = false;
  parameters = 1;
  ranges = (neg_ℤ (pos 2147483648), pos 2147483647) ∷ [];
  result_register = Some 2;
  clusters = (0 ∷ 1 ∷ []) ∷ (2 ∷ 6 ∷ []) ∷ (3 ∷ []) ∷ (4 ∷ []) ∷ (5 ∷ []) ∷ [];
  result = Some (zero_to_nine ∷ zero_to_eighteen ∷ []);
}

abbrev pub pointer_leaf : ℕ → PlainLeaf
pointer_leaf class = record { class = class; leaf = leaves.Pointer; rivals = [] }

abbrev pub number_leaf : ℕ → PlainLeaf
number_leaf class = record { class = class; leaf = leaves.Int types.Int; rivals = [] }

abbrev pub layout_5 : List ℕ → PlainLayout
layout_5 classes = record { layout = 5; leaves = classes }

-- s1 and s2, which have a pointer and then two numbers
abbrev pub s1_part : PlainClass
s1_part = record { class = 5; length = 12; leaves = pointer_leaf 4 ∷ number_leaf 5 ∷ []; layouts = layout_5 (4 ∷ 5 ∷ []) ∷ [] }

abbrev pub s2_part : PlainClass
s2_part = record { class = 8; length = 12; leaves = pointer_leaf 6 ∷ number_leaf 7 ∷ []; layouts = layout_5 (6 ∷ 7 ∷ []) ∷ [] }

-- x, whose number and character are rivals; no step of the function looks at it
abbrev pub x_part : PlainClass
x_part = record {
  class = 1;
  length = 4;
  leaves = record { class = 1; leaf = leaves.Int types.Int; rivals = (2, leaves.Int types.Char) ∷ [] } ∷ record { class = 2; leaf = leaves.Int types.Char; rivals = (1, leaves.Int types.Int) ∷ [] } ∷ [];
  layouts = [];
}

-- what the pointer and the numbers of s2 hold
abbrev pub offset_part : WritePart
offset_part = record { class = 6; low = pos 0; high = pos 0 }

abbrev pub numbers_part : WritePart
numbers_part = record { class = 7; low = pos 0; high = pos 2 }

-- for the call through a register and for the copy
abbrev pub worked_facts : PlainFacts
worked_facts = record {
  sets = main_sets;
  callees = pick_part ∷ [];
  leaves = offset_part ∷ numbers_part ∷ [];
  classes = x_part ∷ s1_part ∷ s2_part ∷ [];
  rising = true;
}

-- ---- facts without parts, for steps that look at none
abbrev pub no_parts : PlainFacts
no_parts = record worked_facts { callees = []; leaves = []; classes = [] }

-- ---- facts of the first function
abbrev pub facts_of_pick : PlainFacts
facts_of_pick = record {
  sets = [] ∷ [] ∷ [] ∷ (12 ∷ []) ∷ (12 ∷ []) ∷ (12 ∷ []) ∷ [] ∷ [];
  callees = external ∷ [];
  leaves = [];
  classes = object ∷ [];
  rising = false;
}

-- ---- one change: other sets

abbrev pub with_sets : List (List ℕ) → PlainFacts
with_sets sets = record worked_facts { sets = sets }

abbrev pub sets_but_one : List (List ℕ)
sets_but_one = replicate 10 [] ++ (5 ∷ []) ∷ (8 ∷ []) ∷ replicate 6 [] ++ (6 ∷ []) ∷ [] ∷ [] ∷ (2147483648 ∷ []) ∷ []

abbrev pub with_first_set : List ℕ → List (List ℕ)
with_first_set set = set ∷ replicate 9 [] ++ (5 ∷ []) ∷ (8 ∷ []) ∷ replicate 6 [] ++ (6 ∷ []) ∷ [] ∷ [] ∷ (2147483648 ∷ []) ∷ [] ∷ []

-- ---- other callees

abbrev pub with_callees : List PlainCallee → PlainFacts
with_callees parts = record worked_facts { callees = parts }

abbrev pub another_kind : PlainCallee
another_kind = record pick_part { kind = 1 }

abbrev pub said_external : PlainCallee
said_external = record pick_part { external = true }

abbrev pub of_two_parameters : PlainCallee
of_two_parameters = record pick_part { parameters = 2 }

-- the greatest argument is one less than its type's
abbrev pub another_range : PlainCallee
another_range = record pick_part { ranges = (neg_ℤ (pos 2147483648), pos 2147483646) ∷ [] }

abbrev pub another_result_register : PlainCallee
another_result_register = record pick_part { result_register = Some 6 }

-- register 6 stands in no cluster
abbrev pub without_a_register : PlainCallee
without_a_register = record pick_part { clusters = (0 ∷ 1 ∷ []) ∷ (2 ∷ []) ∷ (3 ∷ []) ∷ (4 ∷ []) ∷ (5 ∷ []) ∷ [] }

-- there is no matrix for the cluster of the result
abbrev pub result_for_arguments_alone : PlainCallee
result_for_arguments_alone = record pick_part { result = Some (zero_to_nine ∷ []) }

-- no function has the number after the external one's
abbrev pub no_function : PlainCallee
no_function = record external { callee = 3 }

abbrev pub external_of_another_kind : PlainCallee
external_of_another_kind = record external { kind = 0 }

abbrev pub said_defined : PlainCallee
said_defined = record external { external = false }

abbrev pub external_with_range : PlainCallee
external_with_range = record external { ranges = (pos 0, pos 9) ∷ [] }

-- ---- other intervals of leaf classes

abbrev pub with_leaves : List WritePart → PlainFacts
with_leaves parts = record worked_facts { leaves = parts }

abbrev pub empty_interval : WritePart
empty_interval = record { class = 7; low = pos 2; high = pos 0 }

-- the greatest number is above its type's
abbrev pub beyond_type : WritePart
beyond_type = record { class = 7; low = pos 0; high = pos 2147483648 }

abbrev pub beyond_offsets : WritePart
beyond_offsets = record { class = 6; low = pos 0; high = pos (2 ^ 80 + 1) }

-- leaf classes are 0 to 9
abbrev pub no_leaf_class : WritePart
no_leaf_class = record { class = 10; low = pos 0; high = pos 0 }

-- ---- other classes

abbrev pub with_classes : List PlainClass → PlainFacts
with_classes parts = record worked_facts { classes = parts }

abbrev pub of_another_length : PlainClass
of_another_length = record s2_part { length = 16 }

-- the numbers are left out
abbrev pub without_a_leaf : PlainClass
without_a_leaf = record s2_part { leaves = pointer_leaf 6 ∷ [] }

abbrev pub without_rivals : PlainClass
without_rivals = record { class = 1; length = 4; leaves = number_leaf 1 ∷ record { class = 2; leaf = leaves.Int types.Char; rivals = [] } ∷ []; layouts = [] }

abbrev pub without_layout : PlainClass
without_layout = record s2_part { layouts = [] }

-- region classes are 0 to 12
abbrev pub no_region_class : PlainClass
no_region_class = record { class = 13; length = 4; leaves = []; layouts = [] }

-- without the object that the first function begins
abbrev pub without_parts_of_pick : PlainFacts
without_parts_of_pick = record facts_of_pick { classes = [] }
