use Rattle.tables.specs.Sound.{IsSound}
use Rattle.std.proofs.Common.{◌∷◌, Some, rules, sym, ap, ◌∙◌}
use mathlib.Core.Option.{none}
use Rattle.atomic_table.specs.Table.{rest, step}
use Rattle.tables_lock.proofs.Keeps.{gives_slot}
use Rattle.tables_lock.proofs.lock.Lock.give_back.Goals as goal

pub swap-requires : goal.swap-requires
swap-requires g c =
    let e = c.exchange-empty.ensures in
    let seat = c.args.seat.now in
    let was = c.requires.holding.1.1 in (
      e.0 ∙ c.requires.own,
      search rules,
      gives_slot (IsSound g.D.Disk.told g.D.Disk.seen g.D.Disk.faults) c.args.self.now.table.shared.table_id.slots c.exchange-empty.new.seat.id c.exchange-empty.new.seat.me (step 1 0 0 0 none) c.args.tables
          (ap (λ m. m.0.holds) e.3 ∙ ap (λ v. v.holds) c.requires.holding.0)
          (ap (λ m. m.1) e.3 ∙ ap (λ l. (0, Some c.args.tables) ∷ rest l) was)
          (c.requires.opening ∙ sym (ap (λ m. m.0.opening) e.3)) c.requires.sound,
    )
