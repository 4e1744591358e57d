-- A difference-bound matrix as contracts see it.
use Rattle.std.specs.Prelude.{◌≡◌, ℕ, ◌+◌, ◌*◌, ◌≤◌, ℤ, pos, ◌≤ℤ◌, Option, Some, None, List, slice_index_or, unsigned_abs}

-- the cells of a matrix as they are kept, row by row
abbrev pub Cells : Type 0
Cells = List (Option ℤ)

abbrev pub at : Cells → ℕ → ℕ → Option ℤ
at cells i j = slice_index_or cells (17 * i + j) None

-- a matrix: the number of its variables beside the constant zero, and its bounds
pub record Bounds : Type 0 where
  pub size : ℕ
  pub cells : Cells

-- the bound of v_j - v_i, None for no bound
abbrev pub bound : Bounds → ℕ → ℕ → Option ℤ
bound m i j = at m.cells i j

-- the bounds of a matrix by their two indices, as `bound m` gives them
abbrev pub Weights : Type 0
Weights = ℕ → ℕ → Option ℤ

-- a bound stands, and is at most w
abbrev pub AtMost : Option ℤ → ℤ → Type 0
AtMost None w = ⊥
AtMost (Some c) w = c ≤ℤ w

abbrev pub Stands : Option ℤ → Type 0
Stands o = (c : ℤ) × (o ≡ Some c)

-- each bound that stands among the variables 0 to n is within b either way
pub record IsWithin (b n : ℕ) (d : Weights) : Type 0 where
  pub each : (i j : ℕ) (c : ℤ) → i ≤ n → j ≤ n → d i j ≡ Some c → unsigned_abs c ≤ b

-- each of the variables 1 to n has both bounds against the constant zero, each at most b
pub record IsRanged (b n : ℕ) (d : Weights) : Type 0 where
  pub above : (i : ℕ) → 1 ≤ i → i ≤ n → AtMost (d 0 i) (pos b)
  pub below : (i : ℕ) → 1 ≤ i → i ≤ n → AtMost (d i 0) (pos b)
