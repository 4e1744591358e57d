-- Full matrices of bounds: the bound of v_j - v_i stands for each two of the variables 0 to n, where variable 0 is the constant 0.
use Rattle.std.specs.Prelude.{◌≡◌, ℕ, ◌+◌, ◌*◌, ◌^◌, ◌≤◌, ◌==◌, if◌then◌else◌, ℤ, pos, ◌+ℤ◌, ◌-ℤ◌, ◌≤ℤ◌, unsigned_abs, List, length, slice_index_or}
use Rattle.std.specs.Int.{int_min, int_max}

-- the cells of a matrix as they are kept, in rows of 17
abbrev pub Cells : Type 0
Cells = List ℤ

abbrev pub at : Cells → ℕ → ℕ → ℤ
at cells i j = slice_index_or cells (17 * i + j) (pos 0)

-- the bounds by their two variables, as `at cells` gives them
abbrev pub Weights : Type 0
Weights = ℕ → ℕ → ℤ

-- no way over a third variable is shorter than the bound
pub record IsClosed (n : ℕ) (d : Weights) : Type 0 where
  pub zero : (i : ℕ) → i ≤ n → d i i ≡ pos 0
  pub triangle : (i j k : ℕ) → i ≤ n → j ≤ n → k ≤ n → d i j ≤ℤ (d i k +ℤ d k j)

-- each variable alone is within 2 ^ 80 either way
pub record IsRanged (n : ℕ) (d : Weights) : Type 0 where
  pub above : (i : ℕ) → i ≤ n → d 0 i ≤ℤ pos (2 ^ 80)
  pub below : (i : ℕ) → i ≤ n → d i 0 ≤ℤ pos (2 ^ 80)

pub record IsSound (n : ℕ) (d : Weights) : Type 0 where
  pub closed : IsClosed n d
  pub ranged : IsRanged n d

-- each bound is within 2 ^ 81 either way
pub record IsSmall (n : ℕ) (d : Weights) : Type 0 where
  pub each : (i j : ℕ) → i ≤ n → j ≤ n → unsigned_abs (d i j) ≤ 2 ^ 81

-- there is room for the variables 0 to n
pub record HasRoom (n : ℕ) (cells : Cells) : Type 0 where
  pub some : 1 ≤ n
  pub most : n ≤ 16
  pub length : length cells ≡ 17 * (n + 1)

-- each bound, or the way over a bound c from i to j where that is shorter
abbrev pub over : ℕ → ℕ → ℤ → Weights → Weights
over i j c d p q = int_min (d p q) ((d p i +ℤ c) +ℤ d j q)

-- the variable v is forgotten, and lies between l and h
abbrev pub placed : ℕ → ℤ → ℤ → Weights → Weights
placed v l h d p q = if p == v then (if q == v then pos 0 else d 0 q -ℤ l) else (if q == v then d p 0 +ℤ h else d p q)

-- the variable v becomes f + c, where f may be v
abbrev pub moved : ℕ → ℕ → ℤ → Weights → Weights
moved v f c d p q = if p == v then (if q == v then pos 0 else d f q -ℤ c) else (if q == v then d p f +ℤ c else d p q)

abbrev pub greater : Weights → Weights → Weights
greater d e p q = int_max (d p q) (e p q)

-- a matrix as its fields have it
pub record Raw : Type 0 where
  pub size : ℕ
  pub cells : Cells
