use Rattle.std.proofs.Common.{◌≡◌, [], map}
use Rattle.std.specs.List.{range_with_len}
use Rattle.core_ir.specs.Plain.{lists_of}
use Rattle.var_clusters.specs.Clusters.{members}
use Rattle.var_clusters.proofs.gathering.empty_lists.Given as goal

abbrev pub invariant-loop : goal.invariant-loop
invariant-loop l = lists_of l.lists.items ≡ map (members []) (range_with_len 0 l.counter)
