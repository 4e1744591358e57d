use Rattle.std.proofs.Common.{◌≡◌, ℕ, ◌+◌, ◌*◌, ◌<◌, length, slice_get}
use Rattle.lease_table.specs.Times.{time_at}
use Rattle.lease_table.specs.Standings.{free_from_if_any}
use Rattle.lease_table.proofs.tasks.index.Given as goal

abbrev pub invariant-loop-k : goal.invariant-loop-k
invariant-loop-k l = record {
  long : length l.times ≡ 2 * l.leaves;
  done : (j : ℕ) → j < l.k → time_at l.times (l.leaves + j) ≡ free_from_if_any (slice_get l.standings j);
}
