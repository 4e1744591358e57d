use Rattle.journal.specs.Journals.{IsJournal}
use Rattle.measure.proofs.records.append.Given as goal

abbrev pub invariant-loop : goal.invariant-loop
invariant-loop g l = IsJournal g.D.Disk.told g.D.Disk.seen l.journal
