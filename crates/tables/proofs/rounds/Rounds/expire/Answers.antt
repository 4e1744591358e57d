use Rattle.std.proofs.Common.{arith}
use Rattle.tables.proofs.Steps.{room_to_expire, kept_expires, kept_idle}
use Rattle.tables.proofs.rounds.Rounds.expire.Goals as goal

pub push_reserved-requires : goal.push_reserved-requires
push_reserved-requires g c =
    let r = c.self.inside in
    let room = room_to_expire r.lease c.expire-freed.new.self r.shelf r.basis r.events c.args.now c.expire-freed.result c.self.invariant c.expire-freed.ensures.step c.if-freed-gt0.true in
    omega (arith, room, r.events.ok.0)

pub invariant_of-self : goal.invariant_of-self
invariant_of-self g c =
    let r = c.self.inside in
    let pushed = c.push_reserved.new.self in
    kept_expires r.lease c.expire-freed.new.self r.shelf r.basis r.events pushed c.args.now c.expire-freed.result c.self.invariant c.expire-freed.ensures.step c.if-freed-gt0.true
    c.push_reserved.ensures.items (omega (arith, r.events.ok.0, pushed.ok.0, c.push_reserved.ensures.len)) (omega (arith, c.push_reserved.ensures.capacity))

pub invariant_of-self-else-freed-gt0 : goal.invariant_of-self-else-freed-gt0
invariant_of-self-else-freed-gt0 g c =
    let r = c.self.inside in
    kept_idle r.lease c.expire-freed.new.self r.shelf r.basis r.events c.args.now c.expire-freed.result c.self.invariant c.expire-freed.ensures.step (omega (arith, c.if-freed-gt0.false))
