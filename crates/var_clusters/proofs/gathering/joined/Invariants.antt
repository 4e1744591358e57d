use Rattle.std.proofs.Common.{◌≡◌, drop}
use Rattle.std.specs.List.{fold, range_with_len}
use Rattle.var_clusters.specs.Clusters.{join}
use Rattle.var_clusters.specs.computed.Partition.{IsPartition}
use Rattle.var_clusters.proofs.gathering.joined.Given as goal

abbrev pub invariant-loop-pair : goal.invariant-loop-pair
invariant-loop-pair l = IsPartition l.partition × (fold join l.partition.firsts.items (drop l.pair-index l.pairs) ≡ fold join (range_with_len 0 l.count) l.pairs)
