use Rattle.std.proofs.Common.{◌≡◌, take}
use Rattle.points_to.specs.computed.Blocks.{members}
use Rattle.points_to.proofs.blocks.list.Given as goal

abbrev pub invariant-loop-block : goal.invariant-loop-block
invariant-loop-block l = l.out.items ≡ members (take l.block-index l.blocks)
