use Rattle.points_to.specs.computed.Progress.{room}
use Rattle.points_to.specs.computed.Solving.{IsRun}
use Rattle.points_to.proofs.solving.run.Given as goal

abbrev pub invariant-loop-node : goal.invariant-loop-node
invariant-loop-node l = IsRun l.classes l.all l.fn.found l.found

abbrev pub decreases-loop-node : goal.decreases-loop-node
decreases-loop-node l = room l.found.done.items
