use Rattle.std.proofs.Common.{◌≡◌, filter}
use Rattle.core_ir.specs.Plain.{lists_of}
use Rattle.var_clusters.specs.Clusters.{has_members}
use Rattle.var_clusters.proofs.gathering.kept.Given as goal

abbrev pub invariant-loop-list : goal.invariant-loop-list
invariant-loop-list l = lists_of l.found.items ≡ filter has_members (lists_of l.yielded)
