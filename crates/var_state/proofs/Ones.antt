-- Two bounds as a matrix.
use Rattle.std.proofs.Common.{◌≡◌, ℕ, zero, suc, ◌≤◌, ℤ, pos, neg_ℤ, refl, arith}
use Rattle.std.proofs.lemmas.Int.{ints}
use Rattle.var_state.specs.Grids.{placed}
use Rattle.var_state.specs.Clusters.{one}

pub place_one : (low high l h : ℤ) (v p q : ℕ) → 1 ≤ v → v ≤ 1 → p ≤ 1 → q ≤ 1 → one l h p q ≡ placed v l h (one low high) p q
place_one low high l h zero p q i j a b = absurd (omega (arith, i))
place_one low high l h (suc (suc v)) p q i j a b = absurd (omega (arith, j))
place_one low high l h (suc zero) zero zero i j a b = refl
place_one low high l h (suc zero) zero (suc zero) i j a b = omega (arith, ints)
place_one low high l h (suc zero) (suc zero) zero i j a b = omega (arith, ints)
place_one low high l h (suc zero) (suc zero) (suc zero) i j a b = refl
place_one low high l h (suc zero) (suc (suc p)) q i j a b = absurd (omega (arith, a))
place_one low high l h (suc zero) zero (suc (suc q)) i j a b = absurd (omega (arith, b))
place_one low high l h (suc zero) (suc zero) (suc (suc q)) i j a b = absurd (omega (arith, b))

pub low_one : (low high : ℤ) (v : ℕ) → 1 ≤ v → v ≤ 1 → low ≡ neg_ℤ (one low high v 0)
low_one low high zero i j = absurd (omega (arith, i))
low_one low high (suc v) i j = omega (arith, ints)

pub high_one : (low high : ℤ) (v : ℕ) → 1 ≤ v → v ≤ 1 → high ≡ one low high 0 v
high_one low high zero i j = absurd (omega (arith, i))
high_one low high (suc v) i j = refl

pub same_one : (low high : ℤ) (v w : ℕ) → 1 ≤ v → 1 ≤ w → v ≤ 1 → w ≤ 1 → pos 0 ≡ one low high v w
same_one low high zero w i k j l = absurd (omega (arith, i))
same_one low high (suc v) zero i k j l = absurd (omega (arith, k))
same_one low high (suc v) (suc w) i k j l = refl
