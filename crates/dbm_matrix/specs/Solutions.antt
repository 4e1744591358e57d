-- The solutions of a matrix. A valuation gives each variable its integer, by the variable's number.
use Rattle.std.specs.Prelude.{◌≡◌, ℕ, ◌≤◌, ℤ, pos, ◌+ℤ◌, ◌≤ℤ◌, Some, ◌==◌, cond, List, length}
use Rattle.dbm_matrix.specs.Bounds.{Weights}
use Rattle.dbm_matrix.specs.Changes.{low, high}

-- v_j - v_i is at most c
abbrev pub Meets : (ℕ → ℤ) → ℕ → ℕ → ℤ → Type 0
Meets v i j c = v j ≤ℤ (v i +ℤ c)

-- the constant zero is 0, and v meets each bound that stands among the variables 0 to n
pub record Solves (n : ℕ) (d : Weights) (v : ℕ → ℤ) : Type 0 where
  pub zero : v 0 ≡ pos 0
  pub each : (i j : ℕ) (c : ℤ) → i ≤ n → j ≤ n → d i j ≡ Some c → Meets v i j c

-- v once the variable x has become z
abbrev pub assigned : ℕ → ℤ → (ℕ → ℤ) → ℕ → ℤ
assigned x z v k = cond (k == x) z (v k)

-- the constant zero is 0, and each other variable lies in its range, both ends counted
pub record IsInside (ranges : List (ℤ × ℤ)) (v : ℕ → ℤ) : Type 0 where
  pub zero : v 0 ≡ pos 0
  pub above : (i : ℕ) → 1 ≤ i → i ≤ length ranges → low ranges i ≤ℤ v i
  pub below : (i : ℕ) → 1 ≤ i → i ≤ length ranges → v i ≤ℤ high ranges i
