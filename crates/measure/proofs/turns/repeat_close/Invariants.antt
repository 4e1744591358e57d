use Rattle.dbm_matrix.specs.Bounds.{bound, IsWithin, IsRanged}
use Rattle.measure.proofs.turns.repeat_close.Given as goal

abbrev pub invariant-loop-done : goal.invariant-loop-done
invariant-loop-done l = record {
  ranged : IsRanged 100 l.matrix.size (bound l.matrix);
  within : IsWithin 200 l.matrix.size (bound l.matrix);
}
