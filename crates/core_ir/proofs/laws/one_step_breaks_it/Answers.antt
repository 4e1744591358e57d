use Rattle.core_ir.proofs.Fitting.{entry_kept, argument_kept, argument_wanted, block_wanted, number_in_range, type_in_range, pointer_wanted, stored_pointer_wanted, size_wanted, own_object_wanted}
use Rattle.core_ir.proofs.laws.one_step_breaks_it.Goals as goal

pub returns-clause-entry : goal.returns-clause-entry
returns-clause-entry c = entry_kept

pub returns-clause-argument : goal.returns-clause-argument
returns-clause-argument c = argument_kept

pub returns-clause-number_of_arguments : goal.returns-clause-number_of_arguments
returns-clause-number_of_arguments c = argument_wanted

pub returns-clause-block : goal.returns-clause-block
returns-clause-block c = block_wanted

pub returns-clause-number : goal.returns-clause-number
returns-clause-number c = number_in_range

pub returns-clause-type_of_access : goal.returns-clause-type_of_access
returns-clause-type_of_access c = type_in_range

pub returns-clause-pointer : goal.returns-clause-pointer
returns-clause-pointer c = pointer_wanted

pub returns-clause-stored : goal.returns-clause-stored
returns-clause-stored c = stored_pointer_wanted

pub returns-clause-size : goal.returns-clause-size
returns-clause-size c = size_wanted

pub returns-clause-object : goal.returns-clause-object
returns-clause-object c = own_object_wanted
