use Rattle.journal.specs.Journals.{journal_gate}
use Rattle.tables.proofs.Spacing.{spaced_claimed}
use Rattle.tables.proofs.tables.Tables.claim.Goals as goal

pub returns-clause-sound : goal.returns-clause-sound
returns-clause-sound g c =
    let old = c.args.self.now in
    record {
      journal = c.requires.journal;
      spaced = spaced_claimed {B = g.row.W-Basis.Denot} c.args.now old.opening.term old.rounds c.claim.new.self c.claim.result (journal_gate old.journal) c.claim.ensures.step c.claim.ensures.err c.requires.spaced;
      later = c.requires.later;
      risen = c.requires.risen;
    }
