use Rattle.core_ir.proofs.BoundsFitting.{size_kept, entries_counted, greatest_kept, least_kept, solution_wanted, range_kept, lower_kept, upper_wanted}
use Rattle.core_ir.proofs.part_laws.another_bound_breaks_it.Goals as goal

pub returns-clause-size : goal.returns-clause-size
returns-clause-size c = size_kept

pub returns-clause-entries : goal.returns-clause-entries
returns-clause-entries c = entries_counted

pub returns-clause-greatest : goal.returns-clause-greatest
returns-clause-greatest c = greatest_kept

pub returns-clause-least : goal.returns-clause-least
returns-clause-least c = least_kept

pub returns-clause-solution : goal.returns-clause-solution
returns-clause-solution c = solution_wanted

pub returns-clause-above : goal.returns-clause-above
returns-clause-above c = range_kept

pub returns-clause-below : goal.returns-clause-below
returns-clause-below c = lower_kept

pub returns-clause-bound : goal.returns-clause-bound
returns-clause-bound c = upper_wanted
