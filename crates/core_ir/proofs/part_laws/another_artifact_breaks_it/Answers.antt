use Rattle.core_ir.proofs.ArtifactFitting.{context_of_arguments, context_in_type, result_wanted, result_bound_wanted, call_known, write_known}
use Rattle.core_ir.proofs.part_laws.another_artifact_breaks_it.Goals as goal

pub returns-clause-context : goal.returns-clause-context
returns-clause-context c = context_of_arguments

pub returns-clause-context_range : goal.returns-clause-context_range
returns-clause-context_range c = context_in_type

pub returns-clause-result : goal.returns-clause-result
returns-clause-result c = result_wanted

pub returns-clause-result_bound : goal.returns-clause-result_bound
returns-clause-result_bound c = result_bound_wanted

pub returns-clause-call : goal.returns-clause-call
returns-clause-call c = call_known

pub returns-clause-write : goal.returns-clause-write
returns-clause-write c = write_known
