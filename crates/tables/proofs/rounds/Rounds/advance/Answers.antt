use Rattle.std.proofs.Common.{◌<◌, ◌++◌, ◌∷◌, [], List, ◌∙◌, ap, subst, arith}
use Rattle.lease_table.specs.Machine.{Machine, Advances}
use Rattle.lease_table.specs.declared.event.Event.{Event}
use Rattle.lease_table.specs.declared.event.Event.TheVariants.{Advanced, Ended}
use Rattle.tables.specs.Works.{HasTask}
use Rattle.tables.proofs.Steps.{kept_next, kept_last}
use Rattle.tables.proofs.rounds.Rounds.advance.Goals as goal

pub invariant_of-self-in-Round : goal.invariant_of-self-in-Round
invariant_of-self-in-Round g c =
    let r = c.self.inside in
    let some : 0 < c.in-Round.tasks = subst (HasTask {B = g.row.B.Denot}) c.in-Round.is c.requires.task in
    let pushed = c.push_reserved.new.self in
    let event : Event = Advanced c.in-Round.tasks in
    let step = subst (λ (m : Machine). Advances c.in-Round.tasks m c.advance.new.self.machine) c.reserve-in-Round.ensures.same c.advance.ensures.step in
    kept_next r.lease c.advance.new.self r.shelf c.begin.new.self r.basis c.in-Round.basis r.events pushed c.in-Round.tasks c.self.invariant some step c.in_ok-begin-in-Round.ensures.begun
    (c.push_reserved.ensures.items ∙ ap (λ (l : List Event). l ++ event ∷ []) c.reserve.ensures.items)
    (omega (arith, r.events.ok.0, pushed.ok.0, c.push_reserved.ensures.len, c.reserve.ensures.len))
    (omega (arith, pushed.ok.0, pushed.ok.1))

pub invariant_of-self-in-End : goal.invariant_of-self-in-End
invariant_of-self-in-End g c =
    let r = c.self.inside in
    let pushed = c.push_reserved-in-End.new.self in
    kept_last r.lease c.end.new.self r.shelf r.basis r.events pushed c.self.invariant c.end.ensures.step
    (c.push_reserved-in-End.ensures.items ∙ ap (λ (l : List Event). l ++ Ended ∷ []) c.reserve.ensures.items)
    (omega (arith, r.events.ok.0, pushed.ok.0, c.push_reserved-in-End.ensures.len, c.reserve.ensures.len))
    (omega (arith, pushed.ok.0, pushed.ok.1))
