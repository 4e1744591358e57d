use Rattle.core_ir.proofs.Fitting.{one_tree_each}
use Rattle.core_ir.proofs.laws.one_tree_of_a_type.Goals as goal

pub returns : goal.returns
returns c = one_tree_each
