use Rattle.core_ir.proofs.FactsFitting.{set_wanted, set_ascending, class_known, function_known}
use Rattle.core_ir.proofs.part_laws.another_set_breaks_facts.Goals as goal

pub returns-clause-count : goal.returns-clause-count
returns-clause-count c = set_wanted

pub returns-clause-ascending : goal.returns-clause-ascending
returns-clause-ascending c = set_ascending

pub returns-clause-region : goal.returns-clause-region
returns-clause-region c = class_known

pub returns-clause-function : goal.returns-clause-function
returns-clause-function c = function_known
