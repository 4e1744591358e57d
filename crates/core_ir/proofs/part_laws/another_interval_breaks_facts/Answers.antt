use Rattle.core_ir.proofs.FactsFitting.{intervals_ascend, interval_not_empty, interval_in_type, interval_in_offsets, leaf_class_known}
use Rattle.core_ir.proofs.part_laws.another_interval_breaks_facts.Goals as goal

pub returns-clause-order : goal.returns-clause-order
returns-clause-order c = intervals_ascend

pub returns-clause-ends : goal.returns-clause-ends
returns-clause-ends c = interval_not_empty

pub returns-clause-number : goal.returns-clause-number
returns-clause-number c = interval_in_type

pub returns-clause-offset : goal.returns-clause-offset
returns-clause-offset c = interval_in_offsets

pub returns-clause-leaf : goal.returns-clause-leaf
returns-clause-leaf c = leaf_class_known
