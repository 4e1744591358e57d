use Rattle.std.proofs.Common.{refl, arith}
use Rattle.lease_table.specs.declared.event.Event.TheVariants.{Abandoned}
use Rattle.lease_table.specs.declared.standing.Standing.TheVariants.{Free}
use Rattle.tables.proofs.Steps.{no_change, room_to_end, kept_ends}
use Rattle.tables.proofs.rounds.Rounds.abandon.Goals as goal

pub push_reserved-requires : goal.push_reserved-requires
push_reserved-requires g c =
    let r = c.self.inside in
    let step = c.in-Freed.ensures.step in
    let room = room_to_end r.lease r.shelf r.basis r.events c.args.task c.args.ticket c.self.invariant step.0.1 in
    omega (arith, room, r.events.ok.0)

pub invariant_of-self : goal.invariant_of-self
invariant_of-self g c =
    let r = c.self.inside in
    let step = c.in-Freed.ensures.step in
    let pushed = c.push_reserved.new.self in
    kept_ends r.lease c.abandon-answer.new.self r.shelf r.shelf r.basis r.events pushed (Abandoned c.args.task) c.args.task c.args.ticket Free c.self.invariant step.0.1 refl step.1 step.1
    c.push_reserved.ensures.items (omega (arith, r.events.ok.0, pushed.ok.0, c.push_reserved.ensures.len)) (omega (arith, c.push_reserved.ensures.capacity)) (no_change r.shelf)
