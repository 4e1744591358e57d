use Rattle.core_ir.proofs.FactsFitting.{call_fits, copy_fits, external_call_fits, start_fits, alone_fits}
use Rattle.core_ir.proofs.part_laws.worked_facts_fit.Goals as goal

pub returns-clause-call : goal.returns-clause-call
returns-clause-call c = call_fits

pub returns-clause-copy : goal.returns-clause-copy
returns-clause-copy c = copy_fits

pub returns-clause-external : goal.returns-clause-external
returns-clause-external c = external_call_fits

pub returns-clause-object : goal.returns-clause-object
returns-clause-object c = start_fits

pub returns-clause-no_part : goal.returns-clause-no_part
returns-clause-no_part c = alone_fits
