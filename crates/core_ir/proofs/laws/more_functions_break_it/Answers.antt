use Rattle.core_ir.proofs.Fitting.{few_functions, few_externals}
use Rattle.core_ir.proofs.laws.more_functions_break_it.Goals as goal

pub returns-clause-defined : goal.returns-clause-defined
returns-clause-defined c = few_functions

pub returns-clause-external : goal.returns-clause-external
returns-clause-external c = few_externals
