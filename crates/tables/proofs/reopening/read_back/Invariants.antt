use Rattle.std.proofs.Common.{◌≡◌, ◌≤◌, ◌-◌, ◌^◌, true, []}
use Rattle.journal.specs.declared.digests.Digests.{Digests}
use Rattle.journal.specs.Readings.{reading_disk, reading_scan, IsReading, IsGoing}
use Rattle.journal.specs.Scans.{HasRead}
use Rattle.tables.specs.Sound.{Spaced}
use Rattle.tables.proofs.Replaying.{IsReadTo}
use Rattle.tables.proofs.reopening.read_back.Given as goal

abbrev pub invariant-loop-kept : goal.invariant-loop-kept
invariant-loop-kept g l = record {
  reading : IsReading g.D.Disk.told g.D.Disk.seen g.D.Disk.may_leave l.reading;
  going : IsGoing l.reading;
  spaced : Spaced l.rounds.machine l.reading.scan.at;
  read : g.D.Disk.told ≡ true → (digests : Digests) → HasRead digests [] (reading_scan l.initial.reading) (g.D.Disk.seen (reading_disk l.initial.reading)) →
      IsReadTo g.D.Disk.seen digests (g.D.Disk.seen (reading_disk l.initial.reading)) l.reading l.rounds;
  later : g.D.Disk.faults (reading_disk l.initial.reading) ≤ g.D.Disk.faults (reading_disk l.reading);
}

abbrev pub decreases-loop-kept : goal.decreases-loop-kept
decreases-loop-kept g l = 2 ^ 31 - l.reading.scan.at
