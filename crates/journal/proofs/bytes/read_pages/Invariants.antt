use Rattle.std.proofs.Common.{◌≡◌, ◌≤◌, ◌-◌, true, length, take, drop}
use Rattle.sv_outside.specs.Disk.{IsStill}
use Rattle.journal.proofs.bytes.read_pages.Given as goal

abbrev pub invariant-loop-done : goal.invariant-loop-done
invariant-loop-done g l = record {
  within : l.done ≤ length l.into;
  read : g.D.Disk.told ≡ true → take l.done l.into ≡ take l.done (drop l.at (g.D.Disk.seen l.fn.disk));
  seen : g.D.Disk.seen l.disk ≡ g.D.Disk.seen l.fn.disk;
  still : IsStill (g.D.Disk.moment l.fn.disk) (g.D.Disk.moment l.disk) (g.D.Disk.left_since l.fn.disk) (g.D.Disk.left_since l.disk) (g.D.Disk.may_leave l.fn.disk) (g.D.Disk.may_leave l.disk);
  faults : g.D.Disk.faults l.disk ≡ g.D.Disk.faults l.fn.disk;
  room : g.D.Disk.room l.disk ≡ g.D.Disk.room l.fn.disk;
}

abbrev pub decreases-loop-done : goal.decreases-loop-done
decreases-loop-done g l = length l.initial.into - l.done
