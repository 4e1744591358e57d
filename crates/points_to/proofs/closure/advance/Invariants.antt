use Rattle.std.proofs.Common.{◌-◌, length}
use Rattle.points_to.proofs.closure.advance.Given as goal

abbrev pub decreases-loop-next : goal.decreases-loop-next
decreases-loop-next l = length l.numbers - l.next
