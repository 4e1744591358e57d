use Rattle.std.proofs.Common.{◌≡◌, ◌++◌}
use Rattle.points_to.specs.computed.Blocks.{block_members}
use Rattle.points_to.proofs.block.spell.Given as goal

abbrev pub invariant-loop-rest : goal.invariant-loop-rest
invariant-loop-rest l = l.out.items ++ block_members l.block.index l.rest ≡ l.fn.out.items ++ block_members l.block.index l.block.bits

abbrev pub decreases-loop-rest : goal.decreases-loop-rest
decreases-loop-rest l = l.rest
