-- Bounds to be added, each as i, j and c: `v_j - v_i` is at most c.
use Rattle.std.specs.Prelude.{◌≢◌, ℕ, ◌^◌, ◌≤◌, ℤ, unsigned_abs, List, [], ◌∷◌}
use Rattle.dbm_matrix.specs.Bounds.{Weights}
use Rattle.dbm_matrix.specs.Changes.{with_bound}
use Rattle.dbm_matrix.specs.Solutions.{Meets}

-- each bound names two of the variables 0 to n, and is within 2^82 either way
abbrev pub AllFit : ℕ → List (ℕ × ℕ × ℤ) → Type 0
AllFit n [] = Unit {0}
AllFit n (b ∷ bs) = ((b.0 ≤ n) × (b.1 ≤ n) × (b.0 ≢ b.1) × (unsigned_abs b.2 ≤ 2 ^ 82)) × AllFit n bs

-- all of the bounds more
abbrev pub with_bounds : List (ℕ × ℕ × ℤ) → Weights → Weights
with_bounds [] d = d
with_bounds (b ∷ bs) d = with_bounds bs (with_bound b.0 b.1 b.2 d)

-- the valuation v meets all of the bounds
abbrev pub MeetsAll : List (ℕ × ℕ × ℤ) → (ℕ → ℤ) → Type 0
MeetsAll [] v = Unit {0}
MeetsAll (b ∷ bs) v = Meets v b.0 b.1 b.2 × MeetsAll bs v
