use Rattle.core_ir.proofs.ViewFitting.{callee_wanted, object_wanted, one_cluster_wanted, range_kept, bound_wanted}
use Rattle.core_ir.proofs.laws.another_view_breaks_it.Goals as goal

pub returns-clause-callee : goal.returns-clause-callee
returns-clause-callee c = callee_wanted

pub returns-clause-object : goal.returns-clause-object
returns-clause-object c = object_wanted

pub returns-clause-cluster : goal.returns-clause-cluster
returns-clause-cluster c = one_cluster_wanted

pub returns-clause-range : goal.returns-clause-range
returns-clause-range c = range_kept

pub returns-clause-bound : goal.returns-clause-bound
returns-clause-bound c = bound_wanted
