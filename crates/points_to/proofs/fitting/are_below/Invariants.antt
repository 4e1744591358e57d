use Rattle.std.proofs.Common.{◌≡◌, ℕ, ◌<◌, Some, slice_get}
use Rattle.points_to.proofs.fitting.are_below.Given as goal

abbrev pub invariant-loop-node : goal.invariant-loop-node
invariant-loop-node l = (k node : ℕ) → k < l.node-index → slice_get l.entries k ≡ Some node → node < l.nodes
