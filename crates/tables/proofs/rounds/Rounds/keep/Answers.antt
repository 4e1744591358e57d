use Rattle.std.proofs.Common.{sym, ◌∙◌, ap, subst, arith, List, ◌++◌, ◌∷◌, []}
use Rattle.lease_table.specs.declared.event.Event.{Event}
use Rattle.lease_table.specs.declared.event.Event.TheVariants.{Kept}
use Rattle.lease_table.specs.declared.standing.Standing.TheVariants.{Done}
use Rattle.tables.proofs.Steps.{SameRows, one_shelved, kept_takes}
use Rattle.tables.proofs.rounds.Rounds.keep.Goals as goal

pub invariant_of-self-2 : goal.invariant_of-self-2
invariant_of-self-2 g c =
    let r = c.self.inside in
    let step = c.keep.ensures.step in
    let pushed = c.push_reserved.new.self in
    let event : Event = Kept c.args.task in
    let rows : SameRows r.shelf c.put.new.self = subst (SameRows r.shelf) (sym c.put.ensures) (one_shelved r.shelf c.args.task c.args.artifact.items) in
    kept_takes r.lease c.keep.new.self r.shelf c.put.new.self r.basis r.events pushed event c.args.task (Done r.lease.machine.next_ticket) c.self.invariant step.1 step.1
    (c.push_reserved.ensures.items ∙ ap (λ (l : List Event). l ++ event ∷ []) c.reserve.ensures.items)
    (omega (arith, r.events.ok.0, pushed.ok.0, c.push_reserved.ensures.len, c.reserve.ensures.len))
    (omega (arith, r.events.ok.0, pushed.ok.0, c.push_reserved.ensures.len, c.reserve.ensures.len, c.in_ok-reserve.ensures.ok, c.push_reserved.ensures.capacity, c.tasks.ensures.count)) rows
