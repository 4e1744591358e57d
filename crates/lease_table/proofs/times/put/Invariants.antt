use Rattle.std.proofs.Common.{◌≡◌, ◌≢◌, ℕ, ◌+◌, ◌*◌, ◌/◌, ◌<◌, ◌≤◌, length}
use Rattle.lease_table.specs.Times.{time_at}
use Rattle.lease_table.proofs.Tree.{Rule}
use Rattle.lease_table.proofs.times.put.Given as goal

-- the rule holds but at the parent of the node that was written last
abbrev pub invariant-loop-at : goal.invariant-loop-at
invariant-loop-at l = record {
  long : length l.nodes ≡ 2 * l.leaves;
  low : 1 ≤ l.at;
  high : l.at < 2 * l.leaves;
  inner : (k : ℕ) → 1 ≤ k → k < l.leaves → k ≢ l.at / 2 → Rule l.nodes k;
  put : time_at l.nodes (l.leaves + l.leaf) ≡ l.fn.time;
  kept : (k : ℕ) → l.leaves ≤ k → k ≢ l.leaves + l.leaf → time_at l.nodes k ≡ time_at l.fn.nodes k;
}

abbrev pub decreases-loop-at : goal.decreases-loop-at
decreases-loop-at l = l.at
