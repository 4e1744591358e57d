-- The worked facts fit, and they do not after certain changes.
use Rattle.std.proofs.Common.{ℕ, zero, suc, ◌<◌, Bool, pos, List, [], ◌∷◌, ◌++◌, length, replicate, slice_index_or, unwrap_or, refl, sym, ap, arith, true≢false, inl, inr}
use Rattle.std.specs.Int.Signed.{le_z_yes}
use Rattle.std.specs.List.{AllByRecursion}
use Rattle.std.specs.Ordering.{int_eq}
use Rattle.std.proofs.Math.Facts.{leb_yes}
use Rattle.c_values.specs.declared.int_type.IntType.TheVariants as types
use Rattle.core_ir.specs.declared.steps.Leaf.TheVariants as leaves
use Rattle.core_ir.specs.BoundsFit.{BoundsFit}
use Rattle.core_ir.specs.Ranges.{Range, leaf_range}
use Rattle.core_ir.specs.ViewsFit.{IsTarget, SetFits, SetsFit, CalleePartFits, ClassFits, IntervalsFit, FactsFit}
use Rattle.core_ir.specs.Worked.{worked, pick, main}
use Rattle.core_ir.specs.WorkedView.{external}
use Rattle.core_ir.specs.WorkedFacts.{call_of_pick, copy, load_of_member, step_alone, call_of_external, start_of_block, main_sets, zero_to_eighteen, pick_part, number_leaf, s1_part, s2_part, offset_part, numbers_part, worked_facts, no_parts, facts_of_pick, with_sets, sets_but_one, with_first_set, with_callees, another_kind, said_external, of_two_parameters, another_range, another_result_register, without_a_register, result_for_arguments_alone, no_function, external_of_another_kind, said_defined, external_with_range, with_leaves, empty_interval, beyond_type, beyond_offsets, no_leaf_class, with_classes, of_another_length, without_a_leaf, without_rivals, without_layout, no_region_class, without_parts_of_pick}
use Rattle.core_ir.proofs.Fitting.{includes, ◌▹◌}
use Rattle.core_ir.proofs.BoundsFitting.{one_fits}
use Rattle.core_ir.proofs.ViewFitting.{clusters_fit, nothing, one_object, nine_fits, external_fits, object_fits}

-- ---- sets

one_class : (class : ℕ) → class < 13 → SetFits worked (class ∷ [])
one_class class below = record { ascending = tt ▹ tt; targets = inl below ▹ tt }

first_function : SetFits worked (2147483648 ∷ [])
first_function = record { ascending = tt ▹ tt; targets = inr (leb_yes tt, leb_yes tt) ▹ tt }

-- sets without members before others
after_nothing : (n : ℕ) (sets : List (List ℕ)) → AllByRecursion (SetFits worked) sets → AllByRecursion (SetFits worked) (replicate n [] ++ sets)
after_nothing zero sets h = h
after_nothing (suc n) sets h = nothing ▹ after_nothing n sets h

-- from register 18 on, and from register 10 on
abbrev last_sets : List (List ℕ)
last_sets = (6 ∷ []) ∷ [] ∷ [] ∷ (2147483648 ∷ []) ∷ [] ∷ []

last_sets_fit : AllByRecursion (SetFits worked) last_sets
last_sets_fit = one_class 6 (leb_yes tt) ▹ nothing ▹ nothing ▹ first_function ▹ nothing ▹ tt

abbrev later_sets : List (List ℕ)
later_sets = (5 ∷ []) ∷ (8 ∷ []) ∷ replicate 6 [] ++ last_sets

later_sets_fit : AllByRecursion (SetFits worked) later_sets
later_sets_fit = one_class 5 (leb_yes tt) ▹ one_class 8 (leb_yes tt) ▹ after_nothing 6 last_sets last_sets_fit

main_sets_fit : SetsFit worked main main_sets
main_sets_fit = record { count = refl; each = after_nothing 10 later_sets later_sets_fit }

pick_sets_fit : SetsFit worked pick facts_of_pick.sets
pick_sets_fit = record { count = refl; each = nothing ▹ nothing ▹ nothing ▹ one_object ▹ one_object ▹ one_object ▹ nothing ▹ tt }

-- ---- callees

pub eighteen_fits : BoundsFit (leaf_range (leaves.Int types.Int) ∷ []) zero_to_eighteen
eighteen_fits = one_fits _ (pos 0) (pos 18) (pos 0) (includes tt tt) (includes tt tt) (le_z_yes tt) (le_z_yes tt) (le_z_yes tt) (le_z_yes tt)

pub pick_part_fits : CalleePartFits worked pick_part
pick_part_fits = record {
  kind = refl;
  external = refl;
  parameters = refl;
  ranges = refl;
  result_register = refl;
  clusters = clusters_fit;
  result = nine_fits ▹ eighteen_fits ▹ tt;
}

-- ---- leaf classes and region classes

intervals_fit : IntervalsFit worked worked_facts.leaves
intervals_fit = record {
  order = (leb_yes tt ▹ tt) ▹ tt ▹ tt;
  each = record { ends = le_z_yes tt; range = includes tt tt } ▹ record { ends = le_z_yes tt; range = includes tt tt } ▹ tt;
}

no_intervals : IntervalsFit worked []
no_intervals = record { order = tt; each = tt }

classes_fit : AllByRecursion (ClassFits worked []) worked_facts.classes
classes_fit = record { length_is = refl; leaves = refl; layouts = tt } ▹ record { length_is = refl; leaves = refl; layouts = tt } ▹ record { length_is = refl; leaves = refl; layouts = tt } ▹ tt

classes_fit_copy : AllByRecursion (ClassFits worked (5 ∷ [])) worked_facts.classes
classes_fit_copy = record { length_is = refl; leaves = refl; layouts = refl ▹ tt } ▹ record { length_is = refl; leaves = refl; layouts = refl ▹ tt } ▹ record { length_is = refl; leaves = refl; layouts = refl ▹ tt } ▹ tt

-- ---- facts

pub call_fits : FactsFit worked main call_of_pick worked_facts
call_fits = record {
  parts = record {
    sets_fit = main_sets_fit;
    callee_order = tt ▹ tt;
    callees_fit = pick_part_fits ▹ tt;
    callees_there = refl ▹ tt;
    leaves_fit = intervals_fit;
    class_order = (leb_yes tt ▹ leb_yes tt ▹ tt) ▹ (leb_yes tt ▹ tt) ▹ tt ▹ tt;
    classes_fit = classes_fit;
  };
  classes_there = tt;
}

pub copy_fits : FactsFit worked main copy worked_facts
copy_fits = record {
  parts = record {
    sets_fit = main_sets_fit;
    callee_order = tt ▹ tt;
    callees_fit = pick_part_fits ▹ tt;
    callees_there = tt;
    leaves_fit = intervals_fit;
    class_order = (leb_yes tt ▹ leb_yes tt ▹ tt) ▹ (leb_yes tt ▹ tt) ▹ tt ▹ tt;
    classes_fit = classes_fit_copy;
  };
  classes_there = refl ▹ refl ▹ tt;
}

pub alone_fits : FactsFit worked main step_alone no_parts
alone_fits = record {
  parts = record {
    sets_fit = main_sets_fit;
    callee_order = tt;
    callees_fit = tt;
    callees_there = tt;
    leaves_fit = no_intervals;
    class_order = tt;
    classes_fit = tt;
  };
  classes_there = tt;
}

pub external_call_fits : FactsFit worked pick call_of_external facts_of_pick
external_call_fits = record {
  parts = record {
    sets_fit = pick_sets_fit;
    callee_order = tt ▹ tt;
    callees_fit = external_fits ▹ tt;
    callees_there = refl ▹ tt;
    leaves_fit = no_intervals;
    class_order = tt ▹ tt;
    classes_fit = object_fits [] tt ▹ tt;
  };
  classes_there = tt;
}

pub start_fits : FactsFit worked pick start_of_block facts_of_pick
start_fits = record {
  parts = record {
    sets_fit = pick_sets_fit;
    callee_order = tt ▹ tt;
    callees_fit = external_fits ▹ tt;
    callees_there = tt;
    leaves_fit = no_intervals;
    class_order = tt ▹ tt;
    classes_fit = object_fits [] tt ▹ tt;
  };
  classes_there = refl ▹ tt;
}

-- ---- one change: sets

pub set_wanted : FactsFit worked main call_of_pick (with_sets sets_but_one) → ⊥
set_wanted h = absurd (omega (arith, h.parts.sets_fit.count))

pub set_ascending : FactsFit worked main call_of_pick (with_sets (with_first_set (8 ∷ 5 ∷ []))) → ⊥
set_ascending h = absurd (omega (arith, h.parts.sets_fit.each.0.ascending.0.0))

no_class : IsTarget worked 13 → ⊥
no_class (inl below) = absurd (omega (arith, below))
no_class (inr function) = absurd (omega (arith, function.0))

pub class_known : FactsFit worked main call_of_pick (with_sets (with_first_set (13 ∷ []))) → ⊥
class_known h = no_class h.parts.sets_fit.each.0.targets.0

no_such_function : IsTarget worked 2147483651 → ⊥
no_such_function (inl below) = absurd (omega (arith, below))
no_such_function (inr function) = absurd (omega (arith, function.1))

pub function_known : FactsFit worked main call_of_pick (with_sets (with_first_set (2147483651 ∷ []))) → ⊥
function_known h = no_such_function h.parts.sets_fit.each.0.targets.0

-- ---- callees

pub callee_wanted : FactsFit worked main call_of_pick (with_callees []) → ⊥
callee_wanted h = true≢false (sym h.parts.callees_there.0)

pub callees_ascend : FactsFit worked main call_of_pick (with_callees (external ∷ pick_part ∷ [])) → ⊥
callees_ascend h = absurd (omega (arith, h.parts.callee_order.0.0))

pub kind_kept : FactsFit worked main call_of_pick (with_callees (another_kind ∷ [])) → ⊥
kind_kept h = absurd (omega (arith, h.parts.callees_fit.0.kind))

pub defined_kept : FactsFit worked main call_of_pick (with_callees (said_external ∷ [])) → ⊥
defined_kept h = true≢false h.parts.callees_fit.0.external

pub parameters_kept : FactsFit worked main call_of_pick (with_callees (of_two_parameters ∷ [])) → ⊥
parameters_kept h = absurd (omega (arith, h.parts.callees_fit.0.parameters))

abbrev ends_below_type : List Range → Bool
ends_below_type ranges = int_eq (slice_index_or ranges 0 (pos 0, pos 0)).1 (pos 2147483646)

pub ranges_kept : FactsFit worked main call_of_pick (with_callees (another_range ∷ [])) → ⊥
ranges_kept h = true≢false (ap ends_below_type h.parts.callees_fit.0.ranges)

pub result_register_kept : FactsFit worked main call_of_pick (with_callees (another_result_register ∷ [])) → ⊥
result_register_kept h = absurd (omega (arith, ap (λ r. unwrap_or r 0) h.parts.callees_fit.0.result_register))

pub clusters_wanted : FactsFit worked main call_of_pick (with_callees (without_a_register ∷ [])) → ⊥
clusters_wanted h = absurd (omega (arith, h.parts.callees_fit.0.clusters.once 6 (leb_yes tt)))

pub result_wanted : FactsFit worked main call_of_pick (with_callees (result_for_arguments_alone ∷ [])) → ⊥
result_wanted h = h.parts.callees_fit.0.result.1

pub function_wanted : FactsFit worked main call_of_pick (with_callees (pick_part ∷ no_function ∷ [])) → ⊥
function_wanted h = h.parts.callees_fit.1.0

pub external_kind_kept : FactsFit worked main call_of_pick (with_callees (pick_part ∷ external_of_another_kind ∷ [])) → ⊥
external_kind_kept h = absurd (omega (arith, h.parts.callees_fit.1.0.kind))

pub external_kept : FactsFit worked main call_of_pick (with_callees (pick_part ∷ said_defined ∷ [])) → ⊥
external_kept h = true≢false (sym h.parts.callees_fit.1.0.external)

pub no_range_of_external : FactsFit worked main call_of_pick (with_callees (pick_part ∷ external_with_range ∷ [])) → ⊥
no_range_of_external h = absurd (omega (arith, ap length h.parts.callees_fit.1.0.ranges))

-- ---- intervals

pub intervals_ascend : FactsFit worked main call_of_pick (with_leaves (numbers_part ∷ offset_part ∷ [])) → ⊥
intervals_ascend h = absurd (omega (arith, h.parts.leaves_fit.order.0.0))

pub interval_not_empty : FactsFit worked main call_of_pick (with_leaves (empty_interval ∷ [])) → ⊥
interval_not_empty h = h.parts.leaves_fit.each.0.ends.le

pub interval_in_type : FactsFit worked main call_of_pick (with_leaves (beyond_type ∷ [])) → ⊥
interval_in_type h = h.parts.leaves_fit.each.0.range.high.le

pub interval_in_offsets : FactsFit worked main call_of_pick (with_leaves (beyond_offsets ∷ [])) → ⊥
interval_in_offsets h = h.parts.leaves_fit.each.0.range.high.le

pub leaf_class_known : FactsFit worked main call_of_pick (with_leaves (no_leaf_class ∷ [])) → ⊥
leaf_class_known h = h.parts.leaves_fit.each.0

-- ---- classes

pub class_wanted : FactsFit worked main copy (with_classes (s2_part ∷ [])) → ⊥
class_wanted h = true≢false (sym h.classes_there.0)

pub address_wanted : FactsFit worked main load_of_member worked_facts → ⊥
address_wanted h = true≢false (sym h.classes_there.0)

pub object_wanted : FactsFit worked pick start_of_block without_parts_of_pick → ⊥
object_wanted h = true≢false (sym h.classes_there.0)

pub classes_ascend : FactsFit worked main copy (with_classes (s2_part ∷ s1_part ∷ [])) → ⊥
classes_ascend h = absurd (omega (arith, h.parts.class_order.0.0))

pub length_kept : FactsFit worked main copy (with_classes (s1_part ∷ of_another_length ∷ [])) → ⊥
length_kept h = absurd (omega (arith, h.parts.classes_fit.1.0.length_is))

pub leaf_wanted : FactsFit worked main copy (with_classes (s1_part ∷ without_a_leaf ∷ [])) → ⊥
leaf_wanted h = absurd (omega (arith, ap length h.parts.classes_fit.1.0.leaves))

pub rivals_wanted : FactsFit worked main call_of_pick (with_classes (without_rivals ∷ [])) → ⊥
rivals_wanted h = absurd (omega (arith, ap (λ parts. length (slice_index_or parts 0 (number_leaf 0)).rivals) h.parts.classes_fit.0.leaves))

pub layout_wanted : FactsFit worked main copy (with_classes (s1_part ∷ without_layout ∷ [])) → ⊥
layout_wanted h = absurd (omega (arith, ap length h.parts.classes_fit.1.0.layouts.0))

pub region_class_known : FactsFit worked main call_of_pick (with_classes (no_region_class ∷ [])) → ⊥
region_class_known h = h.parts.classes_fit.0
