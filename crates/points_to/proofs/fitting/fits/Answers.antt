use Rattle.std.proofs.Common.{◌∙◌, sym}
use Rattle.std.proofs.lemmas.Bool.{true≢false}
use Rattle.core_ir.specs.declared.artifacts.Constraint.{Constraint}
use Rattle.points_to.specs.Fits.{IsConstraintWithin}
use Rattle.points_to.proofs.Each.{each_more, each_all, each_not}
use Rattle.points_to.proofs.fitting.fits.Goals as goal

abbrev nothing : Constraint
nothing = record { rule = 0; target = 0; source = 0; third = 0 }

pub loop-constraint-preserved : goal.loop-constraint-preserved
loop-constraint-preserved c =
    each_more (IsConstraintWithin c.args.nodes c.args.classes.now) c.args.all.now c.loop-constraint.constraint-index nothing c.loop-constraint-test.true c.loop-constraint.invariant
    (c.is_constraint_within.ensures.0 c.if-not-is_constraint_within.false)

pub returns-then-not-is_constraint_within : goal.returns-then-not-is_constraint_within
returns-then-not-is_constraint_within c =
    each_not (IsConstraintWithin c.args.nodes c.args.classes.now) c.args.all.now c.loop-constraint.constraint-index nothing c.loop-constraint-test.true
    (λ m. true≢false (sym (c.is_constraint_within.ensures.1 m) ∙ c.if-not-is_constraint_within.true))

pub returns : goal.returns
returns c = each_all (IsConstraintWithin c.args.nodes c.args.classes.now) c.args.all.now c.loop-constraint.constraint-index c.loop-constraint-test.false c.loop-constraint.invariant
