use Rattle.std.proofs.Common.{◌≡◌, ℕ, false, take}
use Rattle.points_to.specs.computed.Blocks.{blocks_have}
use Rattle.points_to.proofs.blocks.none.Given as goal

abbrev pub invariant-loop-block : goal.invariant-loop-block
invariant-loop-block l = (n : ℕ) → blocks_have (take l.block-index l.blocks) n ≡ false
