use Rattle.std.proofs.Common.{All}
use Rattle.tables.specs.Works.{IsNoMark}
use Rattle.worker_loop.proofs.working.computed.Given as goal

abbrev pub invariant-tasks : goal.invariant-tasks
invariant-tasks g l = All (λ p. IsNoMark p.artifact.items) l.list.items
