use Rattle.std.proofs.Common.{◌≡◌, get_or, refl, subst}
use Rattle.points_to.specs.Families.{Has, family_of}
use Rattle.points_to.specs.computed.Progress.{IsMet}
use Rattle.points_to.specs.Rules.{Demands, rule_of}
use Rattle.points_to.proofs.Demanding.{demands_last, sources_as}
use Rattle.points_to.proofs.Steps.{front_more, front_all, constraint_after}
use Rattle.points_to.proofs.reacting.meet_source.Goals as goal

pub react_to_source-requires-clause-stands : goal.react_to_source-requires-clause-stands
react_to_source-requires-clause-stands c = c.loop-member.invariant.kept.stands

pub react_to_source-requires-clause-within : goal.react_to_source-requires-clause-within
react_to_source-requires-clause-within c = constraint_after c.args.found.now c.loop-member.found c.args.classes.now c.args.constraint c.loop-member.invariant.kept c.requires.within

pub loop-member-preserved : goal.loop-member-preserved
loop-member-preserved c =
    let x = get_or c.args.members.now c.loop-member.member-index 0 in
    front_more (λ m. Demands c.args.classes.now (rule_of c.args.constraint.rule) c.args.constraint (Has (family_of c.args.found.now.done.items) c.args.constraint.target) (λ x. x ≡ m)) (λ m. demands_last c.args.classes.now (rule_of c.args.constraint.rule) c.args.constraint (Has (family_of c.args.found.now.done.items) c.args.constraint.target) (λ x. x ≡ m)) c.args.members.now c.loop-member.member-index 0 x c.args.found.now c.loop-member.found c.react_to_source.new.found
    c.loop-member-test.true refl c.loop-member.invariant
    (subst (λ sets. IsMet (Demands c.args.classes.now (rule_of c.args.constraint.rule) c.args.constraint (Has (family_of sets) c.args.constraint.target) (λ y. y ≡ x)) c.loop-member.found c.react_to_source.new.found) c.loop-member.invariant.kept.done c.in_ok-react_to_source.ensures)

pub returns : goal.returns
returns c =
    sources_as c.args.classes.now (rule_of c.args.constraint.rule) c.args.constraint c.args.members.now (Has (family_of c.args.found.now.done.items) c.args.constraint.target) c.args.found.now c.loop-member.found c.requires.reads
    (front_all (λ m. Demands c.args.classes.now (rule_of c.args.constraint.rule) c.args.constraint (Has (family_of c.args.found.now.done.items) c.args.constraint.target) (λ x. x ≡ m)) c.args.members.now c.loop-member.member-index c.args.found.now c.loop-member.found c.loop-member-test.false c.loop-member.invariant)
