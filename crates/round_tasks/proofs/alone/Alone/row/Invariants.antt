use Rattle.std.proofs.Common.{◌≡◌, length}
use Rattle.round_tasks.proofs.alone.Alone.row.Given as goal

abbrev pub invariant-loop-task : goal.invariant-loop-task
invariant-loop-task l = length l.row.items ≡ l.task
