use Rattle.tables.specs.Batches.{IsBatchOf}
use Rattle.tables.proofs.tables.Tables.decide_all.Given as goal

abbrev pub invariant-loop-publication : goal.invariant-loop-publication
invariant-loop-publication g l = record {
  can : (goal.iterator-loop-publication g).can_next l.publication-iterator;
  ends : (goal.iterator-loop-publication g).is_finite l.publication-iterator;
  batch : IsBatchOf l.self.rounds.shelf l.round l.yielded l.batch.piece l.batch.taken.items l.batch.answers.items;
}
