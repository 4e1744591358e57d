use Rattle.std.proofs.Common.{refl, sym, subst, arith}
use Rattle.lease_table.specs.declared.event.Event.TheVariants.{Published}
use Rattle.lease_table.specs.declared.standing.Standing.TheVariants.{Done}
use Rattle.tables.proofs.Steps.{SameRows, one_shelved, room_to_end, kept_ends}
use Rattle.tables.proofs.rounds.Rounds.publish.Goals as goal

pub push_reserved-requires : goal.push_reserved-requires
push_reserved-requires g c =
    let r = c.self.inside in
    let step = c.in-Stored.ensures.step in
    let room = room_to_end r.lease r.shelf r.basis r.events c.args.task c.args.ticket c.self.invariant step.0.1 in
    omega (arith, room, r.events.ok.0)

pub invariant_of-self : goal.invariant_of-self
invariant_of-self g c =
    let r = c.self.inside in
    let step = c.in-Stored.ensures.step in
    let pushed = c.push_reserved.new.self in
    let rows : SameRows r.shelf c.put.new.self = subst (SameRows r.shelf) (sym c.put.ensures) (one_shelved r.shelf c.args.task c.args.artifact.items) in
    kept_ends r.lease c.publish.new.self r.shelf c.put.new.self r.basis r.events pushed (Published c.args.round c.args.task c.args.ticket) c.args.task c.args.ticket (Done c.args.ticket) c.self.invariant step.0.1 refl step.1 step.1
    c.push_reserved.ensures.items (omega (arith, r.events.ok.0, pushed.ok.0, c.push_reserved.ensures.len)) (omega (arith, c.push_reserved.ensures.capacity)) rows
