use Rattle.std.proofs.Common.{◌≡◌, ◌-◌, ◌≤◌, true, [], List}
use Rattle.sv_outside.specs.Disk.{IsStill}
use Rattle.journal.specs.declared.digests.Digests.{Digests}
use Rattle.journal.specs.Format.{Entry}
use Rattle.journal.specs.Looks.{Lists}
use Rattle.journal.specs.Scans.{HasRead, IsInside}
use Rattle.journal.specs.Bodies.{HasFirsts, records_in}
use Rattle.journal.proofs.looking.read_records.Given as goal

abbrev pub invariant-loop-kept : goal.invariant-loop-kept
invariant-loop-kept g l = record {
  inside : IsInside l.scan;
  same_size : l.scan.size ≡ l.fn.scan.size;
  version : l.scan.version ≡ l.fn.scan.version;
  firsts : HasFirsts l.bodies;
  read : g.D.Disk.told ≡ true → (digests : Digests) → HasRead digests [] l.fn.scan (g.D.Disk.seen l.fn.disk)
      → (entries : List Entry) × HasRead digests entries l.scan (g.D.Disk.seen l.fn.disk) × Lists digests l.fn.scan.version entries (records_in l.bodies);
  seen : g.D.Disk.seen l.disk ≡ g.D.Disk.seen l.fn.disk;
  still : IsStill (g.D.Disk.moment l.fn.disk) (g.D.Disk.moment l.disk) (g.D.Disk.left_since l.fn.disk) (g.D.Disk.left_since l.disk) (g.D.Disk.may_leave l.fn.disk) (g.D.Disk.may_leave l.disk);
  later : g.D.Disk.faults l.fn.disk ≤ g.D.Disk.faults l.disk;
  room : g.D.Disk.room l.disk ≡ g.D.Disk.room l.fn.disk;
}

abbrev pub decreases-loop-kept : goal.decreases-loop-kept
decreases-loop-kept g l = l.scan.size - l.scan.at
