-- Sets of numbers as blocks of 64 neighbours, in ascending order: number n is bit n % 64 of the block with index n / 64.
use Rattle.std.specs.Prelude.{◌≡◌, ℕ, ◌*◌, ◌/◌, ◌%◌, ◌^◌, ◌≤◌, ◌==◌, ◌&&◌, ◌||◌, ◌++◌, Bool, List, map, length, drop}
use Rattle.std.specs.List.{filter, flat_map, list_any, range_with_len}
use Rattle.std.specs.Int.{bit_at}
use Rattle.points_to.specs.declared.block.Block.{Block}
use Rattle.points_to.specs.Sets.{IsAscending, AllBelow}

-- the numbers of one block, ascending
unfoldable pub block_members : ℕ → ℕ → List ℕ
block_members index bits = filter (λ n. bit_at bits (n % 64) == 1) (range_with_len (64 * index) 64)

abbrev pub members : List Block → List ℕ
members blocks = flat_map (λ b. block_members b.index b.bits) blocks

-- whether a number is in a block, and in one of several
abbrev pub block_has : Block → ℕ → Bool
block_has b n = (n / 64 == b.index) && (bit_at b.bits (n % 64) == 1)

abbrev pub blocks_have : List Block → ℕ → Bool
blocks_have blocks n = list_any (λ b. block_has b n) blocks

abbrev pub indexes : List Block → List ℕ
indexes blocks = map (λ b. b.index) blocks

-- blocks as a set keeps them: each index once, ascending, and no number of 2 ^ 32 or more
pub record AreBlocks (blocks : List Block) : Type 0 where
  pub ascending : IsAscending (indexes blocks)
  pub within : AllBelow (2 ^ 26) (indexes blocks)

-- blocks i and j are the next ones of two lists whose earlier blocks are merged
pub record IsMerged (left right : List Block) (i j : ℕ) (out : List Block) : Type 0 where
  pub left_place : i ≤ length left
  pub right_place : j ≤ length right
  pub left_order : AreBlocks (out ++ drop i left)
  pub right_order : AreBlocks (out ++ drop j right)
  pub numbers : (n : ℕ) → (blocks_have out n || (blocks_have (drop i left) n || blocks_have (drop j right) n)) ≡ (blocks_have left n || blocks_have right n)
