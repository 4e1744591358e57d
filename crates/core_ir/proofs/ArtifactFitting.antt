-- The worked contributions and artifact fit, and they do not after certain changes.
use Rattle.std.proofs.Common.{ℕ, ℤ, pos, neg_ℤ, ◌-ℤ◌, ◌≤ℤ◌, List, [], ◌∷◌, refl, arith}
use Rattle.std.proofs.lemmas.Int.{ints}
use Rattle.std.specs.Int.Signed.{le_z_yes}
use Rattle.std.proofs.Math.Facts.{leb_yes}
use Rattle.c_values.specs.declared.int_type.IntType.TheVariants as types
use Rattle.core_ir.specs.declared.steps.Leaf.TheVariants as leaves
use Rattle.core_ir.specs.BoundsFit.{BoundsFit, IsSolution}
use Rattle.core_ir.specs.Programs.{PlainProgram}
use Rattle.core_ir.specs.Ranges.{leaf_range}
use Rattle.core_ir.specs.Views.{PlainCallee}
use Rattle.core_ir.specs.ViewsFit.{IntervalsFit, ContributionsFit, ArtifactFits}
use Rattle.core_ir.specs.Worked.{worked, pick}
use Rattle.core_ir.specs.WorkedView.{worked_view}
use Rattle.core_ir.specs.WorkedArtifact.{callees, three_or_four, worked_calls, worked_writes, twice_called, external_called, stranger_called, without_matrix, with_second_matrix, five_to_four, with_no_argument, descending_writes, empty_write, write_beyond_type, write_to_nothing, worked_artifact, of_no_call, context_with_result, context_beyond_type, result_of_arguments, result_without_bound, with_call, with_write_to_nothing}
use Rattle.core_ir.proofs.Fitting.{includes, ◌▹◌}
use Rattle.core_ir.proofs.BoundsFitting.{one_fits}
use Rattle.core_ir.proofs.ViewFitting.{nine_fits}
use Rattle.core_ir.proofs.FactsFitting.{eighteen_fits}

-- ---- contributions

three_fits : BoundsFit (leaf_range (leaves.Int types.Int) ∷ []) three_or_four
three_fits = one_fits _ (pos 3) (pos 4) (neg_ℤ (pos 3)) (includes tt tt) (includes tt tt) (le_z_yes tt) (le_z_yes tt) (le_z_yes tt) (le_z_yes tt)

writes_fit : IntervalsFit worked worked_writes
writes_fit = record {
  order = (leb_yes tt ▹ leb_yes tt ▹ tt) ▹ (leb_yes tt ▹ tt) ▹ tt ▹ tt;
  each = record { ends = le_z_yes tt; range = includes tt tt } ▹ record { ends = le_z_yes tt; range = includes tt tt } ▹ record { ends = le_z_yes tt; range = includes tt tt } ▹ tt;
}

pub contributions_fit : ContributionsFit worked callees worked_calls worked_writes
contributions_fit = record { order = tt ▹ tt; each = (three_fits ▹ tt) ▹ tt; writes_fit = writes_fit }

pub none_fit : (p : PlainProgram) (parts : List PlainCallee) → ContributionsFit p parts [] []
none_fit p parts = record { order = tt; each = tt; writes_fit = record { order = tt; each = tt } }

-- ---- one change

pub called_once : ContributionsFit worked callees twice_called worked_writes → ⊥
called_once h = absurd (omega (arith, h.order.0.0))

pub defined_wanted : ContributionsFit worked callees external_called worked_writes → ⊥
defined_wanted h = h.each.0

pub callee_known : ContributionsFit worked callees stranger_called worked_writes → ⊥
callee_known h = h.each.0

pub matrix_wanted : ContributionsFit worked callees without_matrix worked_writes → ⊥
matrix_wanted h = h.each.0

pub matrices_counted : ContributionsFit worked callees with_second_matrix worked_writes → ⊥
matrices_counted h = h.each.0.1

no_number : (v : ℕ → ℤ) → IsSolution five_to_four v → ⊥
no_number v s =
    let up : (v 1 -ℤ v 0) ≤ℤ pos 4 = s.each 0 1 (pos 4) (leb_yes tt) (leb_yes tt) (λ e. absurd (omega (arith, e))) refl in
    let down : (v 0 -ℤ v 1) ≤ℤ neg_ℤ (pos 5) = s.each 1 0 (neg_ℤ (pos 5)) (leb_yes tt) (leb_yes tt) (λ e. absurd (omega (arith, e))) refl in
    absurd (omega (arith, ints, up, down))

pub argument_wanted : ContributionsFit worked callees with_no_argument worked_writes → ⊥
argument_wanted h = no_number h.each.0.0.solution.0 h.each.0.0.solution.1

pub writes_ascend : ContributionsFit worked callees worked_calls descending_writes → ⊥
writes_ascend h = absurd (omega (arith, h.writes_fit.order.0.0))

pub write_not_empty : ContributionsFit worked callees worked_calls empty_write → ⊥
write_not_empty h = h.writes_fit.each.0.ends.le

pub write_in_type : ContributionsFit worked callees worked_calls write_beyond_type → ⊥
write_in_type h = h.writes_fit.each.0.range.high.le

pub written_class_known : ContributionsFit worked callees worked_calls write_to_nothing → ⊥
written_class_known h = h.writes_fit.each.0

-- ---- an artifact

pub artifact_fits : ArtifactFits worked pick worked_view worked_artifact
artifact_fits = record {
  context = nine_fits ▹ tt;
  result = nine_fits ▹ eighteen_fits ▹ tt;
  contributions = record { order = tt; each = tt; writes_fit = record { order = tt ▹ tt; each = record { ends = le_z_yes tt; range = includes tt tt } ▹ tt } };
}

pub no_call_fits : ArtifactFits worked pick worked_view of_no_call
no_call_fits = record { context = tt; result = tt; contributions = none_fit worked worked_view.callees }

-- ---- one change

pub context_of_arguments : ArtifactFits worked pick worked_view context_with_result → ⊥
context_of_arguments h = h.context.1

pub context_in_type : ArtifactFits worked pick worked_view context_beyond_type → ⊥
context_in_type h = h.context.0.ranged.0.high.le

pub result_wanted : ArtifactFits worked pick worked_view result_of_arguments → ⊥
result_wanted h = h.result.1

pub result_bound_wanted : ArtifactFits worked pick worked_view result_without_bound → ⊥
result_bound_wanted h = h.result.1.0.ranged.0.low

pub call_known : ArtifactFits worked pick worked_view with_call → ⊥
call_known h = h.contributions.each.0

pub write_known : ArtifactFits worked pick worked_view with_write_to_nothing → ⊥
write_known h = h.contributions.writes_fit.each.0
