use Rattle.std.proofs.Common.{◌≡◌, true, get_or, refl, subst}
use Rattle.core_ir.specs.declared.artifacts.Constraint.{Constraint}
use Rattle.points_to.specs.Sets.{has}
use Rattle.points_to.specs.Families.{Has, family_of}
use Rattle.points_to.specs.computed.Progress.{IsMet}
use Rattle.points_to.specs.Rules.{Demands, rule_of}
use Rattle.points_to.proofs.Demanding.{demands_last}
use Rattle.points_to.proofs.Each.{got_at}
use Rattle.points_to.proofs.Steps.{front_more, front_all, constraint_after}
use Rattle.points_to.proofs.reacting.meet_targets.Goals as goal

abbrev nothing : Constraint
nothing = record { rule = 0; target = 0; source = 0; third = 0 }

pub meet_target-requires-clause-stands : goal.meet_target-requires-clause-stands
meet_target-requires-clause-stands c = c.loop-constraint.invariant.kept.stands

pub meet_target-requires-clause-within : goal.meet_target-requires-clause-within
meet_target-requires-clause-within c =
    let i = c.loop-constraint.constraint-index in
    let x = get_or c.args.constraints.now i nothing in
    constraint_after c.args.found.now c.loop-constraint.found c.args.classes.now x c.loop-constraint.invariant.kept (c.requires.within i x (got_at c.args.constraints.now i nothing c.loop-constraint-test.true))

pub meet_target-requires-clause-reads : goal.meet_target-requires-clause-reads
meet_target-requires-clause-reads c =
    let i = c.loop-constraint.constraint-index in
    c.requires.reads i (get_or c.args.constraints.now i nothing) (got_at c.args.constraints.now i nothing c.loop-constraint-test.true)

pub loop-constraint-preserved : goal.loop-constraint-preserved
loop-constraint-preserved c =
    let x = get_or c.args.constraints.now c.loop-constraint.constraint-index nothing in
    front_more (λ k. Demands c.args.classes.now (rule_of k.rule) k (λ z. has c.args.members.now z ≡ true) (Has (family_of c.args.found.now.done.items) k.source)) (λ k. demands_last c.args.classes.now (rule_of k.rule) k (λ z. has c.args.members.now z ≡ true) (Has (family_of c.args.found.now.done.items) k.source)) c.args.constraints.now c.loop-constraint.constraint-index nothing x c.args.found.now c.loop-constraint.found c.meet_target.new.found
    c.loop-constraint-test.true refl c.loop-constraint.invariant
    (subst (λ sets. IsMet (Demands c.args.classes.now (rule_of x.rule) x (λ z. has c.args.members.now z ≡ true) (Has (family_of sets) x.source)) c.loop-constraint.found c.meet_target.new.found) c.loop-constraint.invariant.kept.done c.in_ok-meet_target.ensures)

pub returns : goal.returns
returns c =
    front_all (λ k. Demands c.args.classes.now (rule_of k.rule) k (λ z. has c.args.members.now z ≡ true) (Has (family_of c.args.found.now.done.items) k.source)) c.args.constraints.now c.loop-constraint.constraint-index c.args.found.now c.loop-constraint.found c.loop-constraint-test.false c.loop-constraint.invariant
