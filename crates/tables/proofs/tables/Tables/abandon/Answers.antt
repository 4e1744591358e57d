use Rattle.journal.specs.Journals.{journal_gate}
use Rattle.tables.proofs.Spacing.{spaced_abandons}
use Rattle.tables.proofs.tables.Tables.abandon.Goals as goal

pub returns-clause-sound : goal.returns-clause-sound
returns-clause-sound g c = record {
  journal = c.requires.journal;
  spaced = spaced_abandons c.args.round c.args.task c.args.ticket c.args.self.now.rounds.machine c.abandon.result c.abandon.new.self.machine (journal_gate c.args.self.now.journal) c.abandon.ensures.step c.requires.spaced;
  later = c.requires.later;
  risen = c.requires.risen;
}
