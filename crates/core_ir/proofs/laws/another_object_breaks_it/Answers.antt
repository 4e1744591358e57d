use Rattle.core_ir.proofs.Fitting.{one_tree_wanted, stride_wanted, elements_wanted, start_wanted, order_wanted, member_wanted}
use Rattle.core_ir.proofs.laws.another_object_breaks_it.Goals as goal

pub returns-clause-one_tree : goal.returns-clause-one_tree
returns-clause-one_tree c = one_tree_wanted

pub returns-clause-stride : goal.returns-clause-stride
returns-clause-stride c = stride_wanted

pub returns-clause-elements : goal.returns-clause-elements
returns-clause-elements c = elements_wanted

pub returns-clause-union_member : goal.returns-clause-union_member
returns-clause-union_member c = start_wanted

pub returns-clause-members : goal.returns-clause-members
returns-clause-members c = order_wanted

pub returns-clause-no_member : goal.returns-clause-no_member
returns-clause-no_member c = member_wanted
