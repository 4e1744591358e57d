use Rattle.journal.specs.Journals.{journal_gate}
use Rattle.tables.proofs.Spacing.{spaced_followed}
use Rattle.tables.proofs.tables.Tables.advance.Goals as goal

pub returns-clause-sound : goal.returns-clause-sound
returns-clause-sound g c =
    let old = c.args.self.now in
    record {
      journal = c.requires.sound.journal;
      spaced = spaced_followed {B = g.row.W-Basis.Denot} c.in_ok-next.next old.rounds c.advance.new.self c.advance.result (journal_gate old.journal) c.advance.ensures.task c.advance.ensures.follows c.advance.ensures.err c.requires.sound.spaced;
      later = c.requires.sound.later;
      risen = c.requires.sound.risen;
    }
