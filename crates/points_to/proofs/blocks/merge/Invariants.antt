use Rattle.std.proofs.Common.{◌+◌, ◌-◌, length}
use Rattle.points_to.specs.computed.Blocks.{IsMerged}
use Rattle.points_to.proofs.blocks.merge.Given as goal

abbrev pub invariant-loop-i : goal.invariant-loop-i
invariant-loop-i l = IsMerged l.left l.right l.i l.j l.out.items

abbrev pub decreases-loop-i : goal.decreases-loop-i
decreases-loop-i l = (length l.left + length l.right) - (l.i + l.j)
