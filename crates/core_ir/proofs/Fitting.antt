-- The worked program fits, and it does not after certain changes.
use Rattle.std.proofs.Common.{◌≡◌, ℕ, zero, suc, ◌+◌, ◌<◌, ◌^◌, Bool, true, false, leb, T, pos, List, [], ◌∷◌, length, slice_index_or, slice_get, Option, Some, None, refl, sym, ap, subst, ◌∙◌, arith, true≢false}
use Rattle.std.specs.List.{AllByRecursion}
use Rattle.std.proofs.lemmas.Option.{none-some}
use Rattle.std.specs.Int.Signed.{le_z, le_z_yes}
use Rattle.std.specs.Ordering.{int_eq}
use Rattle.std.proofs.Math.Facts.{leb_yes}
use Rattle.c_values.specs.declared.int_type.IntType.TheVariants as types
use Rattle.c_values.specs.declared.operator.Cmp.TheVariants as compares
use Rattle.core_ir.specs.declared.steps.Callee.TheVariants.{Direct, Through}
use Rattle.core_ir.specs.declared.steps.Cond.TheVariants as conditions
use Rattle.core_ir.specs.declared.steps.Leaf.TheVariants as leaves
use Rattle.core_ir.specs.declared.steps.Operand.{Operand}
use Rattle.core_ir.specs.declared.steps.Operand.TheVariants.{Reg, Const}
use Rattle.core_ir.specs.Classes.{all_shapes, layout_number}
use Rattle.core_ir.specs.Layouts.{erased, tree_of}
use Rattle.core_ir.specs.Lists.{has}
use Rattle.core_ir.specs.Programs.{PlainExternal, PlainFunction, PlainProgram}
use Rattle.core_ir.specs.ProgramsFit.{ProgramFits, IsPointerStart}
use Rattle.core_ir.specs.Ranges.{Range, Includes}
use Rattle.core_ir.specs.Shapes.{PlainShape, Scalar}
use Rattle.core_ir.specs.Starts.{targets_for, IsStart}
use Rattle.core_ir.specs.Steps.{Block, Loop, If, Exit, ended, ◌⨾◌}
use Rattle.core_ir.specs.StepsFit.{leaf_at, HoldsAll, IsSize, MayTake, APointer, PutsIntegers, PutsPointer, PutsOperand, ConditionFits, StepFits, StepsFit, FunctionFits, CallFits}
use Rattle.core_ir.specs.Worked.{worked, pick, main, loop_body, with_pick, with_main, with_classes, into_an_entry_register, result_over_argument, call_without_argument, exit_of_nothing, number_too_large, type_too_large, number_for_a_pointer, number_stored_as_pointer, elements_of_no_size, foreign_object, one_register_less, without_rivals, all_zero, two_trees_of_a_type, elements_with_gaps, no_elements, union_with_a_gap, members_out_of_order, no_members, with_functions, with_externals}
use Rattle.core_ir.proofs.Starting.{x, interval, starts_as_expected, start_of_0, start_of_1, start_of_2, start_of_3, start_of_4, start_of_5, start_of_6, start_of_7, start_of_8}

-- ---- facts on literals

pub includes : {outer inner : Range} → T (le_z outer.0 inner.0) → T (le_z inner.1 outer.1) → Includes outer inner
includes low high = record { low = le_z_yes low; high = le_z_yes high }

integers : {f : PlainFunction} {range : Range} {to : ℕ} → T (leb f.parameters to) → HoldsAll range (leaf_at f to) → PutsIntegers f range to
integers entry held = record { no_entry = leb_yes entry; lies_in = held }

pointer : {f : PlainFunction} {to : ℕ} → T (leb f.parameters to) → APointer f to → PutsPointer f to
pointer entry held = record { no_entry = leb_yes entry; pointer = held }

operand : {f : PlainFunction} {to : ℕ} {a : Operand} → T (leb f.parameters to) → MayTake f (leaf_at f to) a → PutsOperand f to a
operand entry takes = record { no_entry = leb_yes entry; takes = takes }

size_4 : IsSize (pos 4)
size_4 = record { some = λ e. true≢false (sym (ap (λ z. int_eq z (pos 0)) e)); bounded = includes tt tt }

-- one fact, and the rest
infixr 5 ◌▹◌
abbrev pub ◌▹◌ : {A B : Type 0} → A → B → A × B
x ▹ rest = (x, rest)

-- ---- the functions

pick_fits : FunctionFits worked 0 pick
pick_fits = record {
  entries = leb_yes tt;
  result = (leb_yes tt, leb_yes tt);
  body =
      operand tt (includes tt tt)
      ▹ (refl
      ▹ (refl, pointer tt refl)
      ▹ (refl, includes tt tt)
      ▹ (refl, pointer tt refl)
      ▹ record { operands = (leb_yes tt, tt); kept = tt; callees = leb_yes tt }
      ▹ (refl, pointer tt refl)
      ▹ (refl, integers tt (includes tt tt))
      ▹ includes tt tt
      ▹ tt)
      ▹ tt;
}

calls_directly : CallFits worked main (Some 7) (Direct (record { 0 = 0 })) (Const (pos 3) ∷ [])
calls_directly = record {
  operands = (includes tt tt, tt);
  kept = record { no_entry = leb_yes tt; there = leb_yes tt; no_argument = refl };
  callees = record { arguments = (includes tt tt, refl); result = includes tt tt };
}

-- through a register: each function of the called type is `pick`
calls_through : CallFits worked main (Some 22) (Through 21 0) (Reg 0 ∷ [])
calls_through = record {
  operands = (leb_yes tt, tt);
  kept = record { no_entry = leb_yes tt; there = leb_yes tt; no_argument = refl };
  callees = (refl, ((λ same. record { arguments = (includes tt tt, refl); result = includes tt tt }), ((λ same. absurd (omega (arith, same))), tt)));
}

turn_fits : StepsFit worked 1 main 1 loop_body
turn_fits =
    ((refl, pointer tt refl)
    ▹ calls_directly
    ▹ (refl, (types.Int, includes tt tt), size_4, pointer tt refl)
    ▹ (refl, refl)
    ▹ (refl, includes tt tt)
    ▹ (includes tt tt, includes tt tt, integers tt (includes tt tt))
    ▹ operand tt (includes tt tt)
    ▹ tt)
    ▹ tt

loop_fits : StepFits worked 1 main 0 (Block (Loop (If (conditions.Ints compares.Lt (Reg 0) (Const (pos 4))) loop_body (Exit 0 ⨾ ended) ⨾ ended) ⨾ ended))
loop_fits =
    let condition : ConditionFits main (conditions.Ints compares.Lt (Reg 0) (Const (pos 4))) = (includes tt tt, includes tt tt) in
    let left : StepsFit worked 1 main 1 (Exit 0 ⨾ ended) = (leb_yes tt, tt) in
    (((condition, turn_fits, left), tt), tt)

main_fits : FunctionFits worked 1 main
main_fits = record {
  entries = leb_yes tt;
  result = (leb_yes tt, leb_yes tt);
  body =
      pointer tt refl
      ▹ (refl, integers tt (includes tt tt))
      ▹ (includes tt tt, pointer tt refl)
      ▹ operand tt (includes tt tt)
      ▹ (refl, pointer tt refl)
      ▹ (refl, pointer tt refl)
      ▹ operand tt tt
      ▹ loop_fits
      ▹ (refl, pointer tt refl)
      ▹ (refl, pointer tt refl)
      ▹ (refl, refl)
      ▹ (refl, pointer tt refl)
      ▹ (refl, leb_yes tt, pointer tt refl)
      ▹ (refl, (types.Int, includes tt tt), size_4, pointer tt refl)
      ▹ (refl, refl)
      ▹ (refl, includes tt tt)
      ▹ (refl, pointer tt refl)
      ▹ (leb_yes tt, pointer tt refl)
      ▹ (refl, refl)
      ▹ (refl, pointer tt refl)
      ▹ (refl, leb_yes tt, pointer tt refl)
      ▹ (refl, pointer tt refl)
      ▹ operand tt tt
      ▹ (refl, refl)
      ▹ (refl, pointer tt refl)
      ▹ (refl, pointer tt refl)
      ▹ calls_through
      ▹ (refl, includes tt tt)
      ▹ includes tt tt
      ▹ includes tt tt
      ▹ tt;
}

-- ---- the program

no_targets : (class : ℕ) → targets_for worked class ≡ [] → IsPointerStart worked class []
no_targets class none = record { ascending = tt; members = λ target. sym (ap (λ targets. has targets target) none) }

pub worked_fits : ProgramFits worked
worked_fits = record {
  region_numbers = refl;
  leaf_numbers = refl;
  regions_marked = refl ▹ refl ▹ refl ▹ refl ▹ refl ▹ refl ▹ refl ▹ tt;
  laid_out = refl ▹ refl ▹ refl ▹ refl ▹ refl ▹ refl ▹ refl ▹ tt;
  one_tree = refl ▹ refl ▹ refl ▹ refl ▹ refl ▹ refl ▹ refl ▹ refl ▹ refl ▹ refl ▹ refl ▹ refl ▹ refl ▹ refl ▹ refl ▹ refl ▹ tt;
  region_room = leb_yes tt;
  function_room = leb_yes tt;
  external_room = leb_yes tt;
  node_room = leb_yes tt;
  classes = refl;
  functions = pick_fits ▹ main_fits ▹ tt;
  entries = leb_yes tt ▹ tt;
  sites = leb_yes tt ▹ leb_yes tt ▹ leb_yes tt ▹ tt;
  own_objects = (record { first = refl; second = refl } ▹ tt) ▹ tt ▹ tt;
  statics = includes tt tt ▹ (tt, includes tt tt) ▹ tt;
  unions = tt ▹ tt;
  leaf_count = refl;
  leaf_starts =
      interval 0 start_of_0
      ▹ interval 1 start_of_1
      ▹ interval 2 start_of_2
      ▹ interval 3 start_of_3
      ▹ interval 4 start_of_4
      ▹ interval 5 start_of_5
      ▹ interval 6 start_of_6
      ▹ interval 7 start_of_7
      ▹ interval 8 start_of_8
      ▹ (λ range s. absurd (omega (arith, (starts_as_expected 9 range s).0)))
      ▹ tt;
  pointer_count = refl;
  pointer_starts =
      no_targets 0 refl
      ▹ no_targets 1 refl
      ▹ no_targets 2 refl
      ▹ record { ascending = (tt, tt); members = λ target. refl }
      ▹ no_targets 4 refl
      ▹ no_targets 5 refl
      ▹ no_targets 6 refl
      ▹ no_targets 7 refl
      ▹ no_targets 8 refl
      ▹ no_targets 9 refl
      ▹ tt;
}

-- ---- one change

pub entry_kept : ProgramFits (with_pick into_an_entry_register) → ⊥
entry_kept h = absurd (omega (arith, h.functions.0.body.0.no_entry))

pub argument_kept : ProgramFits (with_main result_over_argument) → ⊥
argument_kept h = true≢false h.functions.1.0.body.0.kept.no_argument

pub argument_wanted : ProgramFits (with_main call_without_argument) → ⊥
argument_wanted h = absurd (omega (arith, h.functions.1.0.body.0.callees.arguments))

pub block_wanted : ProgramFits (with_main exit_of_nothing) → ⊥
block_wanted h = absurd (omega (arith, h.functions.1.0.body.0))

pub number_in_range : ProgramFits (with_main number_too_large) → ⊥
number_in_range h = h.functions.1.0.body.0.takes.high.le

pub type_in_range : ProgramFits (with_main type_too_large) → ⊥
type_in_range h = h.functions.1.0.body.0.1.lies_in.low.le

pub pointer_wanted : ProgramFits (with_main number_for_a_pointer) → ⊥
pointer_wanted h = h.functions.1.0.body.0.takes

pub stored_pointer_wanted : ProgramFits (with_main number_stored_as_pointer) → ⊥
stored_pointer_wanted h = true≢false (sym (ap (λ z. int_eq z (pos 0)) h.functions.1.0.body.0.1))

pub size_wanted : ProgramFits (with_main elements_of_no_size) → ⊥
size_wanted h = h.functions.1.0.body.0.2.some refl

pub own_object_wanted : ProgramFits (with_main foreign_object) → ⊥
own_object_wanted h = true≢false h.own_objects.0.0.first

-- ---- other objects

abbrev is_pointer : Option PlainShape → Bool
is_pointer (Some (Scalar layout region leaves.Pointer class)) = true
is_pointer shape = false

-- the first sub-object of the type is a pointer, and the last object a number
pub one_tree_wanted : ProgramFits two_trees_of_a_type → ⊥
one_tree_wanted h = true≢false (ap is_pointer h.one_tree.1.1.1.1.1.1.1.1.1.1.1.1.1.1.1.0)

pub stride_wanted : ProgramFits elements_with_gaps → ⊥
stride_wanted h = true≢false (sym h.laid_out.0)

pub elements_wanted : ProgramFits no_elements → ⊥
elements_wanted h = true≢false (sym h.laid_out.0)

pub start_wanted : ProgramFits union_with_a_gap → ⊥
start_wanted h = true≢false (sym h.laid_out.1.0)

pub order_wanted : ProgramFits members_out_of_order → ⊥
order_wanted h = true≢false (sym h.laid_out.1.1.1.0)

pub member_wanted : ProgramFits no_members → ⊥
member_wanted h = true≢false (sym h.laid_out.1.1.1.1.1.1.0)

pub few_functions : (functions : List PlainFunction) → 20000 < length functions → ProgramFits (with_functions functions) → ⊥
few_functions functions many h = absurd (omega (arith, many, h.function_room))

pub few_externals : (externals : List PlainExternal) → 2 ^ 31 < 20000 + length externals → ProgramFits (with_externals externals) → ⊥
few_externals externals many h = absurd (omega (arith, many, h.external_room))

-- ---- one type has one tree

module _ {A : Type 0} (P : A → Type 0) where
  all_at : (xs : List A) (i : ℕ) (x : A) → AllByRecursion P xs → slice_get xs i ≡ Some x → P x
  all_at [] i x h e = absurd (none-some x e)
  all_at (y ∷ ys) zero x h e = subst P (in_some y x e) h.0
    where
      in_some : (a b : A) → Some a ≡ Some b → a ≡ b
      in_some a b same = cc
  all_at (y ∷ ys) (suc i) x h e = all_at ys i x h.1 e

pub one_tree_each : (p : PlainProgram) (i j : ℕ) (x y : PlainShape) → ProgramFits p → slice_get (all_shapes p) i ≡ Some x → slice_get (all_shapes p) j ≡ Some y → layout_number x ≡ layout_number y → erased x ≡ erased y
one_tree_each p i j x y h at_i at_j same =
    let Tree : PlainShape → Type 0 = λ shape. tree_of p (layout_number shape) ≡ Some (erased shape) in
    in_some (erased x) (erased y) (sym (all_at Tree (all_shapes p) i x h.one_tree at_i) ∙ ap (tree_of p) same ∙ all_at Tree (all_shapes p) j y h.one_tree at_j)
  where
    in_some : (a b : PlainShape) → Some a ≡ Some b → a ≡ b
    in_some a b e = cc

pub registers_counted : ProgramFits (with_classes one_register_less) → ⊥
registers_counted h = absurd (omega (arith, ap (λ c. c.registers) h.classes))

pub rivals_listed : ProgramFits (with_classes without_rivals) → ⊥
rivals_listed h = absurd (omega (arith, ap (λ c. length (slice_index_or c.rivals 1 [])) h.classes))

start_of_c : IsStart all_zero 2 (pos 5, pos 5)
start_of_c = record { object = 1; path = 1 ∷ []; root = x; static = refl; layout = 3; region = Some 3; leaf = leaves.Int types.Char; found = refl; begins = refl }

pub starts_counted : ProgramFits all_zero → ⊥
starts_counted h = (h.leaf_starts.1.1.0.all (pos 5, pos 5) start_of_c).high.le
