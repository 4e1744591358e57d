use Rattle.std.proofs.Common.{slice_get}
use Rattle.round_tasks.proofs.Written as kinds
use Rattle.round_tasks.proofs.tasks.clustered_at.Goals as goal

pub returns-clause-exact : goal.returns-clause-exact
returns-clause-exact c = kinds.clusters c.clustered.result (slice_get c.args.core.now.functions.items c.args.task) c.in_ok-f.f.now c.in_ok-f.ensures c.clustered.ensures.exact
