use Rattle.std.proofs.Common.{length}
use Rattle.steps_fit.proofs.body.next_step.Given as goal

abbrev pub decreases-loop-last : goal.decreases-loop-last
decreases-loop-last l = length l.left.items
