use Rattle.std.proofs.Common.{◌-◌, ℕ, ◌<◌, ◌≤◌, length, slice_index_or}
use Rattle.points_to.specs.declared.block.Block.{Block}
use Rattle.points_to.proofs.blocks.place.Given as goal

abbrev pub invariant-loop-low : goal.invariant-loop-low
invariant-loop-low l = record {
  order : l.low ≤ l.high;
  within : l.high ≤ length l.blocks;
  before : (k : ℕ) (d : Block) → k < l.low → (slice_index_or l.blocks k d).index < l.index;
  after : (k : ℕ) (d : Block) → l.high ≤ k → k < length l.blocks → l.index ≤ (slice_index_or l.blocks k d).index;
}

abbrev pub decreases-loop-low : goal.decreases-loop-low
decreases-loop-low l = l.high - l.low
