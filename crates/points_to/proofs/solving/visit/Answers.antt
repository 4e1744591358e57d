use Rattle.std.proofs.Common.{subst}
use Rattle.points_to.specs.computed.Progress.{IsMet}
use Rattle.points_to.proofs.Steps.{kept_after, constraint_after}
use Rattle.points_to.proofs.Running.{ByTarget, BySource, visited, hands_on}
use Rattle.points_to.proofs.solving.visit.Goals as goal

pub meet_targets-requires-clause-within : goal.meet_targets-requires-clause-within
meet_targets-requires-clause-within c = λ k x e. constraint_after c.args.found.now c.hand_on.new.self c.args.classes.now x c.in_ok-hand_on.ensures.met.kept (c.requires.targets_within k x e)

pub meet_sources-requires-clause-within : goal.meet_sources-requires-clause-within
meet_sources-requires-clause-within c = λ k x e.
    constraint_after c.args.found.now c.meet_targets.new.found c.args.classes.now x (kept_after c.args.found.now c.hand_on.new.self c.meet_targets.new.found c.in_ok-hand_on.ensures.met.kept c.in_ok-meet_targets.ensures.kept) (c.requires.sources_within k x e)

pub returns-clause-met : goal.returns-clause-met
returns-clause-met c =
    visited c.args.classes.now c.args.found.now c.hand_on.new.self c.meet_targets.new.found c.meet_sources.new.found c.args.targets.now c.args.sources.now c.args.node c.args.delta.now
    c.in_ok-members.members.items c.in_ok-members.ensures.members c.in_ok-hand_on.ensures.met c.in_ok-hand_on.ensures.edges
    (subst (λ xs. IsMet (ByTarget c.args.classes.now c.hand_on.new.self.done.items c.args.targets.now xs) c.hand_on.new.self c.meet_targets.new.found) c.deref.ensures.value c.in_ok-meet_targets.ensures)
    (subst (λ xs. IsMet (BySource c.args.classes.now c.meet_targets.new.found.done.items c.args.sources.now xs) c.meet_targets.new.found c.meet_sources.new.found) c.deref-2.ensures.value c.in_ok-meet_sources.ensures)

pub returns-clause-flowed : goal.returns-clause-flowed
returns-clause-flowed c =
    hands_on c.args.classes.now c.args.found.now c.hand_on.new.self c.meet_targets.new.found c.meet_sources.new.found c.args.targets.now c.args.sources.now c.args.node c.args.delta.now
    c.in_ok-members.members.items c.in_ok-members.ensures.members c.in_ok-hand_on.ensures.met c.in_ok-hand_on.ensures.edges
    (subst (λ xs. IsMet (ByTarget c.args.classes.now c.hand_on.new.self.done.items c.args.targets.now xs) c.hand_on.new.self c.meet_targets.new.found) c.deref.ensures.value c.in_ok-meet_targets.ensures)
    (subst (λ xs. IsMet (BySource c.args.classes.now c.meet_targets.new.found.done.items c.args.sources.now xs) c.meet_targets.new.found c.meet_sources.new.found) c.deref-2.ensures.value c.in_ok-meet_sources.ensures)
