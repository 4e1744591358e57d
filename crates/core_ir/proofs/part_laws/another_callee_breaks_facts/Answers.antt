use Rattle.core_ir.proofs.FactsFitting.{callee_wanted, callees_ascend, function_wanted, kind_kept, defined_kept, parameters_kept, ranges_kept, result_register_kept, clusters_wanted, result_wanted, external_kind_kept, external_kept, no_range_of_external}
use Rattle.core_ir.proofs.part_laws.another_callee_breaks_facts.Goals as goal

pub returns-clause-there : goal.returns-clause-there
returns-clause-there c = callee_wanted

pub returns-clause-order : goal.returns-clause-order
returns-clause-order c = callees_ascend

pub returns-clause-function : goal.returns-clause-function
returns-clause-function c = function_wanted

pub returns-clause-kind : goal.returns-clause-kind
returns-clause-kind c = kind_kept

pub returns-clause-defined : goal.returns-clause-defined
returns-clause-defined c = defined_kept

pub returns-clause-parameters : goal.returns-clause-parameters
returns-clause-parameters c = parameters_kept

pub returns-clause-ranges : goal.returns-clause-ranges
returns-clause-ranges c = ranges_kept

pub returns-clause-result_register : goal.returns-clause-result_register
returns-clause-result_register c = result_register_kept

pub returns-clause-clusters : goal.returns-clause-clusters
returns-clause-clusters c = clusters_wanted

pub returns-clause-result : goal.returns-clause-result
returns-clause-result c = result_wanted

pub returns-clause-external_kind : goal.returns-clause-external_kind
returns-clause-external_kind c = external_kind_kept

pub returns-clause-external : goal.returns-clause-external
returns-clause-external c = external_kept

pub returns-clause-external_ranges : goal.returns-clause-external_ranges
returns-clause-external_ranges c = no_range_of_external
