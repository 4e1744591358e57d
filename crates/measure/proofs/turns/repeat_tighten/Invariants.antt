use Rattle.std.proofs.Common.{◌≤◌}
use Rattle.dbm_matrix.specs.Bounds.{bound, IsWithin, IsRanged}
use Rattle.dbm_matrix.specs.Paths.{IsClosed}
use Rattle.measure.proofs.turns.repeat_tighten.Given as goal

abbrev pub invariant-loop-done : goal.invariant-loop-done
invariant-loop-done l = record {
  size : 2 ≤ l.matrix.size;
  closed : IsClosed l.matrix.size (bound l.matrix);
  ranged : IsRanged 100 l.matrix.size (bound l.matrix);
  within : IsWithin 200 l.matrix.size (bound l.matrix);
}
