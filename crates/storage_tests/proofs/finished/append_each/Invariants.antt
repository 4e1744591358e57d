use Rattle.journal.specs.Journals.{IsJournal}
use Rattle.storage_tests.proofs.finished.append_each.Given as goal

abbrev pub invariant-loop-round : goal.invariant-loop-round
invariant-loop-round g l = IsJournal g.D.Disk.told g.D.Disk.seen l.journal
