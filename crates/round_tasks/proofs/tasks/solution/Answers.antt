use Rattle.core_ir.specs.Plain.{lists_of}
use Rattle.round_tasks.proofs.Written as kinds
use Rattle.round_tasks.proofs.tasks.solution.Goals as goal

pub returns-clause-exact : goal.returns-clause-exact
returns-clause-exact c = kinds.least_sets c.write.result c.args.core.now c.args.all.now (lists_of c.in_ok-solution.solution.sets.items) c.write.ensures.spelling c.in_ok-solution.ensures.closed c.in_ok-solution.ensures.least
