use Rattle.tables.specs.Sound.{IsSound}
use Rattle.std.proofs.Common.{rules, ◌∷◌, ◌++◌, [], Some, sym, ap, ◌∙◌}
use Rattle.tables_lock.proofs.Keeps.{opens}
use Rattle.tables_lock.proofs.lock.Lock.open.Goals.{in_default-pop-via-in-Some+in_default, in_default-pop-via-in_default}
use Rattle.tables_lock.proofs.lock.Lock.open.Goals as goal

pub new-requires : goal.new-requires
new-requires g c = opens (IsSound g.D.Disk.told g.D.Disk.seen g.D.Disk.faults) c.of-opening.result.value c.args.tables c.push_reserved.new.self.items
    (c.push_reserved.ensures.items ∙ ap (λ l. l ++ Some c.args.tables ∷ []) c.in-Ok.ensures.items) (sym (c.of-opening.ensures ∙ c.opening.ensures)) c.requires

pub unreachable-requires : goal.unreachable-requires
unreachable-requires g c =
    elim c.in_default-pop.branch [
      | in_default-pop-via-in-Some+in_default w ↦ search rules
      | in_default-pop-via-in_default w ↦ search rules
    ]
