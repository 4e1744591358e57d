use Rattle.std.proofs.Common.{◌≡◌, ◌∷◌, [], map}
use Rattle.std.specs.List.{range_with_len}
use Rattle.core_ir.specs.Plain.{lists_of}
use Rattle.var_clusters.proofs.partition.lists_of_one.Given as goal

abbrev pub invariant-loop-r : goal.invariant-loop-r
invariant-loop-r l = lists_of l.lists.items ≡ map (λ r. r ∷ []) (range_with_len 0 l.r)
