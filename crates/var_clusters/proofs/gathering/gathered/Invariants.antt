use Rattle.std.proofs.Common.{◌≡◌, length, map, take}
use Rattle.std.specs.List.{range_with_len}
use Rattle.core_ir.specs.Plain.{lists_of}
use Rattle.var_clusters.specs.Clusters.{members}
use Rattle.var_clusters.proofs.gathering.gathered.Given as goal

abbrev pub invariant-loop-r : goal.invariant-loop-r
invariant-loop-r l = lists_of l.lists.items ≡ map (members (take l.r l.firsts)) (range_with_len 0 (length l.firsts))
