use Rattle.round_tasks.proofs.Written as kinds
use Rattle.round_tasks.proofs.tasks.constraints.Goals as goal

pub returns-clause-exact : goal.returns-clause-exact
returns-clause-exact c = kinds.constraints c.write.result c.args.core.now c.args.task c.in_ok-list.list.items c.write.ensures.spelling c.in_ok-list.ensures.ascending c.in_ok-list.ensures.members
