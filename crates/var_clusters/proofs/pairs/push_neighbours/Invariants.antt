use Rattle.std.proofs.Common.{◌≡◌, ◌++◌, drop, None}
use Rattle.var_clusters.specs.Pairs.{neighbours_after}
use Rattle.var_clusters.proofs.pairs.push_neighbours.Given as goal

abbrev pub invariant-loop-r : goal.invariant-loop-r
invariant-loop-r l = l.pairs.items ++ neighbours_after l.last (drop l.r-index l.registers) ≡ l.initial.pairs.items ++ neighbours_after None l.registers
