use Rattle.core_ir.proofs.BoundsFitting.{register_wanted, sixteen_at_most, ascending_wanted, register_known, order_wanted, each_wanted, once_wanted}
use Rattle.core_ir.proofs.part_laws.another_cluster_breaks_them.Goals as goal

pub returns-clause-empty : goal.returns-clause-empty
returns-clause-empty c = register_wanted

pub returns-clause-seventeen : goal.returns-clause-seventeen
returns-clause-seventeen c = sixteen_at_most

pub returns-clause-ascending : goal.returns-clause-ascending
returns-clause-ascending c = ascending_wanted

pub returns-clause-register : goal.returns-clause-register
returns-clause-register c = register_known

pub returns-clause-order : goal.returns-clause-order
returns-clause-order c = order_wanted

pub returns-clause-none : goal.returns-clause-none
returns-clause-none c = each_wanted

pub returns-clause-two : goal.returns-clause-two
returns-clause-two c = once_wanted
