use Rattle.std.proofs.Common.{◌≡◌, ℕ, ◌*◌, ◌<◌, ◌≤◌, length}
use Rattle.lease_table.specs.Times.{time_at}
use Rattle.lease_table.proofs.Tree.{Rule}
use Rattle.lease_table.proofs.times.build.Given as goal

abbrev pub invariant-loop-at : goal.invariant-loop-at
invariant-loop-at l = record {
  long : length l.nodes ≡ 2 * l.leaves;
  high : l.at ≤ l.leaves;
  inner : (k : ℕ) → 1 ≤ k → l.at ≤ k → k < l.leaves → Rule l.nodes k;
  kept : (k : ℕ) → l.leaves ≤ k → time_at l.nodes k ≡ time_at l.fn.nodes k;
}

abbrev pub decreases-loop-at : goal.decreases-loop-at
decreases-loop-at l = l.at
