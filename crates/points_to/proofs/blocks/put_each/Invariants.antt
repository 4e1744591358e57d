use Rattle.std.proofs.Common.{◌≡◌, ℕ, ◌+◌, ◌-◌, ◌≤◌, ◌||◌, length, take, vec_len, vec_capacity}
use Rattle.points_to.specs.computed.Blocks.{AreBlocks, blocks_have}
use Rattle.points_to.proofs.blocks.put_each.Given as goal

abbrev pub invariant-loop-other : goal.invariant-loop-other
invariant-loop-other l = record {
  order : AreBlocks l.blocks.items;
  numbers : (n : ℕ) → blocks_have l.blocks.items n ≡ (blocks_have l.fn.blocks.items n || blocks_have (take l.other-index l.others) n);
  room : vec_len l.blocks + (length l.others - l.other-index) ≤ vec_capacity l.blocks;
}
