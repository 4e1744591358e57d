use Rattle.std.proofs.Common.{◌≤◌}
use Rattle.points_to.proofs.blocks.lack_few.Given as goal

abbrev pub invariant-loop-other : goal.invariant-loop-other
invariant-loop-other l = l.lacking ≤ 4
