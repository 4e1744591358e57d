use Rattle.journal.specs.Journals.{IsJournal}
use Rattle.storage_tests.proofs.whole.append_all.Given as goal

abbrev pub invariant-loop-task : goal.invariant-loop-task
invariant-loop-task g l = IsJournal g.D.Disk.told g.D.Disk.seen l.journal
