use Rattle.tables.specs.Sound.{IsSound}
use Rattle.std.proofs.Common.{rules}
use Rattle.tables_lock.proofs.Keeps.{splits_seat}
use Rattle.tables_lock.proofs.lock.Lock.split.Goals as goal

pub split_seat-other-requires : goal.split_seat-other-requires
split_seat-other-requires g c = (c.requires.own, search rules, splits_seat (IsSound g.D.Disk.told g.D.Disk.seen g.D.Disk.faults) c.args.seat.now.seat.id c.args.seat.now.seat.me.0)
