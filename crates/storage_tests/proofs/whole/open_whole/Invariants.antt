use Rattle.journal.specs.Readings.{IsReading, IsGoing}
use Rattle.storage_tests.proofs.whole.open_whole.Given as goal

abbrev pub invariant-loop : goal.invariant-loop
invariant-loop g l = record {
  reading : IsReading g.D.Disk.told g.D.Disk.seen g.D.Disk.may_leave l.reading;
  going : IsGoing l.reading;
}
