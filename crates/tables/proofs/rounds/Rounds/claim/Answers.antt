use Rattle.std.proofs.Common.{◌≡◌, ◌∙◌, ap, arith, List, ◌++◌, ◌∷◌, []}
use Rattle.lease_table.specs.Events.{after}
use Rattle.lease_table.specs.Machine.{lease_end}
use Rattle.lease_table.specs.declared.event.Event.{Event}
use Rattle.lease_table.specs.declared.event.Event.TheVariants.{Claimed}
use Rattle.lease_table.specs.declared.standing.Standing.TheVariants.{Leased}
use Rattle.tables.proofs.Steps.{no_change, kept_takes}
use Rattle.tables.proofs.rounds.Rounds.claim.Goals as goal

pub invariant_of-self-in-Work : goal.invariant_of-self-in-Work
invariant_of-self-in-Work g c =
    let r = c.self.inside in
    let step = c.in-Work.ensures.step in
    let reserved = c.reserve.new.self in
    let pushed = c.push_reserved.new.self in
    let event : Event = Claimed c.in-Work.task c.saturating_add-until.result in
    let is : c.claim-claimed.new.self.machine ≡ after r.lease.machine event = rw c.saturating_add-until.ensures (rw step.ticket_is at step.after) in
    kept_takes r.lease c.claim-claimed.new.self r.shelf r.shelf r.basis r.events pushed event c.in-Work.task (Leased c.in-Work.ticket (lease_end c.args.now c.args.term)) c.self.invariant step.after is
    (c.push_reserved.ensures.items ∙ ap (λ (l : List Event). l ++ event ∷ []) c.reserve.ensures.items)
    (omega (arith, r.events.ok.0, pushed.ok.0, c.push_reserved.ensures.len, c.reserve.ensures.len))
    (omega (arith, r.events.ok.0, pushed.ok.0, c.push_reserved.ensures.len, c.reserve.ensures.len, c.in_ok-reserve.ensures.ok, c.push_reserved.ensures.capacity, c.tasks.ensures.count)) (no_change r.shelf)
