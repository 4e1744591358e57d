use Rattle.std.proofs.Common.{◌∙◌, sym}
use Rattle.std.proofs.lemmas.Bool.{true≢false}
use Rattle.core_ir.specs.Plain.{lists_of}
use Rattle.core_ir.specs.declared.artifacts.Constraint.{Constraint}
use Rattle.points_to.specs.Families.{family_of}
use Rattle.points_to.specs.Rules.{Meets, IsClosed}
use Rattle.points_to.proofs.Each.{each_more, each_all, each_not}
use Rattle.points_to.proofs.closure.meets_each.Goals as goal

abbrev nothing : Constraint
nothing = record { rule = 0; target = 0; source = 0; third = 0 }

pub loop-constraint-preserved : goal.loop-constraint-preserved
loop-constraint-preserved c =
    each_more (Meets c.args.classes.now (family_of (lists_of c.args.sets.now))) c.args.all.now c.loop-constraint.constraint-index nothing c.loop-constraint-test.true c.loop-constraint.invariant
    (c.meets.ensures.0 c.if-not-meets.false)

pub returns-then-not-meets : goal.returns-then-not-meets
unfolding IsClosed
returns-then-not-meets c =
    each_not (Meets c.args.classes.now (family_of (lists_of c.args.sets.now))) c.args.all.now c.loop-constraint.constraint-index nothing c.loop-constraint-test.true
    (λ m. true≢false (sym (c.meets.ensures.1 m) ∙ c.if-not-meets.true))

pub returns : goal.returns
unfolding IsClosed
returns c =
    each_all (Meets c.args.classes.now (family_of (lists_of c.args.sets.now))) c.args.all.now c.loop-constraint.constraint-index c.loop-constraint-test.false c.loop-constraint.invariant
