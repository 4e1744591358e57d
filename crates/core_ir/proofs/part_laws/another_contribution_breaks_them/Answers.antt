use Rattle.core_ir.proofs.ArtifactFitting.{called_once, defined_wanted, callee_known, matrix_wanted, matrices_counted, argument_wanted, writes_ascend, write_not_empty, write_in_type, written_class_known}
use Rattle.core_ir.proofs.part_laws.another_contribution_breaks_them.Goals as goal

pub returns-clause-order : goal.returns-clause-order
returns-clause-order c = called_once

pub returns-clause-external : goal.returns-clause-external
returns-clause-external c = defined_wanted

pub returns-clause-stranger : goal.returns-clause-stranger
returns-clause-stranger c = callee_known

pub returns-clause-matrix : goal.returns-clause-matrix
returns-clause-matrix c = matrix_wanted

pub returns-clause-second : goal.returns-clause-second
returns-clause-second c = matrices_counted

pub returns-clause-argument : goal.returns-clause-argument
returns-clause-argument c = argument_wanted

pub returns-clause-write_order : goal.returns-clause-write_order
returns-clause-write_order c = writes_ascend

pub returns-clause-ends : goal.returns-clause-ends
returns-clause-ends c = write_not_empty

pub returns-clause-range : goal.returns-clause-range
returns-clause-range c = write_in_type

pub returns-clause-leaf : goal.returns-clause-leaf
returns-clause-leaf c = written_class_known
