use Rattle.std.proofs.Common.{◌≡◌, ℕ, ◌<◌, true, slice_index_or}
use Rattle.points_to.specs.declared.block.Block.{Block}
use Rattle.points_to.specs.computed.Blocks.{block_has, blocks_have}
use Rattle.points_to.proofs.blocks.covers.Given as goal

abbrev pub invariant-loop-other : goal.invariant-loop-other
invariant-loop-other l = (k n : ℕ) (d : Block) → k < l.other-index → block_has (slice_index_or l.others k d) n ≡ true → blocks_have l.blocks n ≡ true
