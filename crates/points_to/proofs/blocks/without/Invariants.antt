use Rattle.std.proofs.Common.{◌≡◌, ℕ, ◌&&◌, ◌++◌, not, take, drop}
use Rattle.points_to.specs.computed.Blocks.{AreBlocks, blocks_have}
use Rattle.points_to.proofs.blocks.without.Given as goal

abbrev pub invariant-loop-block : goal.invariant-loop-block
invariant-loop-block l = record {
  order : AreBlocks (l.out.items ++ drop l.block-index l.blocks);
  numbers : (n : ℕ) → blocks_have l.out.items n ≡ (blocks_have (take l.block-index l.blocks) n && not (blocks_have l.others n));
}
