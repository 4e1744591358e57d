use Rattle.journal.specs.Journals.{journal_gate}
use Rattle.tables.proofs.Spacing.{spaced_expires}
use Rattle.tables.proofs.tables.Tables.expire.Goals as goal

pub returns-clause-sound : goal.returns-clause-sound
returns-clause-sound g c = record {
  journal = c.requires.journal;
  spaced = spaced_expires c.args.now c.expire.result c.args.self.now.rounds.machine c.expire.new.self.machine (journal_gate c.args.self.now.journal) c.expire.ensures.step c.requires.spaced;
  later = c.requires.later;
  risen = c.requires.risen;
}
