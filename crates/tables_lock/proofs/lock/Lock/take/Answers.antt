use Rattle.tables.specs.Sound.{IsSound}
use Rattle.std.proofs.Common.{rules, ap, ◌∙◌}
use mathlib.Core.Option.{none}
use Rattle.atomic_table.specs.Table.{step}
use Rattle.tables_lock.proofs.Keeps.{takes_slot, won_slot}
use Rattle.tables_lock.proofs.lock.Lock.take.Goals as goal

pub compare_exchange-found-requires : goal.compare_exchange-found-requires
compare_exchange-found-requires g c =
    let i = c.loop.invariant in (
      i.0 ∙ c.requires.own,
      search rules,
      takes_slot (IsSound g.D.Disk.told g.D.Disk.seen g.D.Disk.faults) c.args.self.now.table.shared.table_id.slots c.loop.seat.id c.loop.seat.me (step 1 0 0 1 none)
          (ap (λ m. m.1) i.1 ∙ c.requires.rests.0, ap (λ m. m.0.holds) i.1 ∙ c.requires.rests.1),
    )

pub exchange-held-requires : goal.exchange-held-requires
exchange-held-requires g c =
    let e = c.compare_exchange-found.ensures in
    (e.0 ∙ (c.loop.invariant.0 ∙ c.requires.own), won_slot (IsSound g.D.Disk.told g.D.Disk.seen g.D.Disk.faults) (step 1 0 0 1 none) c.loop.seat.me c.compare_exchange-found.new.seat.me c.compare_exchange-found.result e.2 c.if-found-eq0.true)
