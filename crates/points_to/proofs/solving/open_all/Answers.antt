use Rattle.std.proofs.Common.{get_or, refl}
use Rattle.core_ir.specs.declared.artifacts.Constraint.{Constraint}
use Rattle.points_to.specs.Rules.{rule_of}
use Rattle.points_to.specs.computed.Solving.{Opens}
use Rattle.points_to.proofs.Each.{got_at}
use Rattle.points_to.proofs.Steps.{front_more, front_all, constraint_after}
use Rattle.points_to.proofs.Running.{opens_last}
use Rattle.points_to.proofs.solving.open_all.Goals as goal

abbrev nothing : Constraint
nothing = record { rule = 0; target = 0; source = 0; third = 0 }

pub open-requires-clause-stands : goal.open-requires-clause-stands
open-requires-clause-stands c = c.loop-constraint.invariant.kept.stands

pub open-requires-clause-target : goal.open-requires-clause-target
open-requires-clause-target c =
    let i = c.loop-constraint.constraint-index in
    let x = get_or c.args.all.now i nothing in
    (constraint_after c.args.found.now c.loop-constraint.found c.args.classes.now x c.loop-constraint.invariant.kept (c.requires.fits i x (got_at c.args.all.now i nothing c.loop-constraint-test.true))).target

pub open-requires-clause-source : goal.open-requires-clause-source
open-requires-clause-source c =
    let i = c.loop-constraint.constraint-index in
    let x = get_or c.args.all.now i nothing in
    (constraint_after c.args.found.now c.loop-constraint.found c.args.classes.now x c.loop-constraint.invariant.kept (c.requires.fits i x (got_at c.args.all.now i nothing c.loop-constraint-test.true))).source

pub loop-constraint-preserved : goal.loop-constraint-preserved
loop-constraint-preserved c =
    let x = get_or c.args.all.now c.loop-constraint.constraint-index nothing in
    front_more (λ k. Opens (rule_of k.rule) k) (λ k. opens_last (rule_of k.rule) k) c.args.all.now c.loop-constraint.constraint-index nothing x c.args.found.now c.loop-constraint.found c.open.new.found
    c.loop-constraint-test.true refl c.loop-constraint.invariant c.in_ok-open.ensures

pub returns : goal.returns
returns c = front_all (λ k. Opens (rule_of k.rule) k) c.args.all.now c.loop-constraint.constraint-index c.args.found.now c.loop-constraint.found c.loop-constraint-test.false c.loop-constraint.invariant
