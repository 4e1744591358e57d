-- Closure by the weights of paths (Antoine Miné, "A New Numerical Abstract Domain Based on Difference-Bound Matrices",
-- 2001). A matrix is a graph: the bound at i and j is an edge from i to j.
use Rattle.std.specs.Prelude.{◌≡◌, ℕ, ◌≤◌, ℤ, pos, ◌+ℤ◌, ◌<ℤ◌, Option, Some}
use Rattle.dbm_matrix.specs.Bounds.{Weights, AtMost}

-- a path from i to j among the variables 0 to n, along bounds that stand; its weight is the sum of its bounds
pub data Path (n : ℕ) (d : Weights) : ℕ → ℕ → ℤ → Type 0 where
  here : {i : ℕ} → i ≤ n → Path n d i i (pos 0)
  along : {i j : ℕ} {w : ℤ} (k : ℕ) (c v : ℤ) → i ≤ n → d i k ≡ Some c → Path n d k j v → w ≡ c +ℤ v → Path n d i j w

-- o is the least weight of a path from i to j, or no bound where there is no path
pub record IsLeast (n : ℕ) (d : Weights) (i j : ℕ) (o : Option ℤ) : Type 0 where
  pub path : (c : ℤ) → o ≡ Some c → Path n d i j c
  pub least : (w : ℤ) → Path n d i j w → AtMost o w

-- e is the closed form of d
pub record IsClosureOf (n : ℕ) (d e : Weights) : Type 0 where
  pub each : (i j : ℕ) → i ≤ n → j ≤ n → IsLeast n d i j (e i j)

-- a closed path is negative
abbrev pub HasNegativeCycle : ℕ → Weights → Type 0
HasNegativeCycle n d = (i : ℕ) × (w : ℤ) × Path n d i i w × (w <ℤ pos 0)

-- d is its own closed form: no way over a third variable is shorter than the bound
pub record IsClosed (n : ℕ) (d : Weights) : Type 0 where
  pub zero : (i : ℕ) → i ≤ n → d i i ≡ Some (pos 0)
  pub triangle : (i j k : ℕ) (a b : ℤ) → i ≤ n → j ≤ n → k ≤ n → d i k ≡ Some a → d k j ≡ Some b → AtMost (d i j) (a +ℤ b)
