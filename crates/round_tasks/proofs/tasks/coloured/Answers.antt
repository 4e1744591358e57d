use Rattle.round_tasks.proofs.Written as kinds
use Rattle.round_tasks.proofs.tasks.coloured.Goals as goal

pub returns-clause-exact : goal.returns-clause-exact
returns-clause-exact c = kinds.colours c.write.result c.args.sites.now c.deref.result.now c.in_ok-list.list.items c.in_ok-list.ensures c.write.ensures.spelling
