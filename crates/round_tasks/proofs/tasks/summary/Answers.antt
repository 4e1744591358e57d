use Rattle.round_tasks.proofs.Written as kinds
use Rattle.round_tasks.proofs.tasks.summary.Goals as goal

pub returns-clause-kind : goal.returns-clause-kind
returns-clause-kind c = kinds.summary c.write.result _ c.write.ensures.spelling
