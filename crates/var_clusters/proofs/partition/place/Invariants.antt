use Rattle.std.proofs.Common.{◌≡◌, drop, length}
use Rattle.var_clusters.specs.computed.Partition.{placed}
use Rattle.var_clusters.proofs.partition.place.Given as goal

abbrev pub invariant-loop-r : goal.invariant-loop-r
invariant-loop-r l = (placed l.to (drop l.r-index l.registers) l.firsts.items ≡ placed l.to l.registers l.initial.firsts.items) × (length l.firsts.items ≡ length l.initial.firsts.items)
