-- Matrices as widened, and what closing them gives.
use Rattle.std.proofs.Common.{◌≡◌, ℕ, zero, suc, ◌<◌, ◌≤◌, ◌-◌, ◌^◌, ℤ, pos, ◌+ℤ◌, ◌≤ℤ◌, int_lt, unsigned_abs, Bool, true, false, Option, Some, length, get_or, replicate, refl, ◌∙◌, subst, arith}
use Rattle.std.specs.Prelude.{if◌then◌else◌, unwrap_or}
use Rattle.std.proofs.lemmas.Int.{ints}
use Rattle.std.proofs.lemmas.List.{length-replicate, get_or-replicate}
use Rattle.dbm_matrix.specs.Bounds.{Bounds, bound, IsWithin}
use Rattle.dbm_matrix.specs.Bounds.{IsRanged as IsRangedBy}
use Rattle.dbm_matrix.specs.Changes.{AreWithin}
use Rattle.dbm_matrix.specs.Paths.{IsClosed as IsClosedBy}
use Rattle.dbm_matrix.proofs.Options.{most_out}
use Rattle.var_state.specs.Grids.{Weights, IsRanged, IsSound, IsSmall}

pub same_ranged : (n : ℕ) (d e : Weights) → ((i j : ℕ) → i ≤ n → j ≤ n → e i j ≡ d i j) → IsRanged n d → IsRanged n e
same_ranged n d e each s = record {
  above = λ i ii. rw (each 0 i (omega arith) ii) (s.above i ii);
  below = λ i ii. rw (each i 0 ii (omega arith)) (s.below i ii);
}

pub same_small : (n : ℕ) (d e : Weights) → ((i j : ℕ) → i ≤ n → j ≤ n → e i j ≡ d i j) → IsSmall n d → IsSmall n e
same_small n d e each s = record { each = λ i j ii jj. rw (each i j ii jj) (s.each i j ii jj) }

-- a choice of two bounds at each place
abbrev pub kept_or : Weights → Weights → Weights → Weights
kept_or d e t p q = if int_lt (d p q) (e p q) then t p q else d p q

pub kept_ranged : (n : ℕ) (d e t : Weights) → IsRanged n d → IsRanged n t → IsRanged n (kept_or d e t)
kept_ranged n d e t r s = record { above = above; below = below }
  where
    pick : (b : Bool) (x y m : ℤ) → x ≤ℤ m → y ≤ℤ m → (if b then y else x) ≤ℤ m
    pick true x y m p q = q
    pick false x y m p q = p

    above : (i : ℕ) → i ≤ n → kept_or d e t 0 i ≤ℤ pos (2 ^ 80)
    above i ii = pick (int_lt (d 0 i) (e 0 i)) (d 0 i) (t 0 i) (pos (2 ^ 80)) (r.above i ii) (s.above i ii)

    below : (i : ℕ) → i ≤ n → kept_or d e t i 0 ≤ℤ pos (2 ^ 80)
    below i ii = pick (int_lt (d i 0) (e i 0)) (d i 0) (t i 0) (pos (2 ^ 80)) (r.below i ii) (s.below i ii)

pub kept_small : (n : ℕ) (d e t : Weights) → IsSmall n d → IsSmall n t → IsSmall n (kept_or d e t)
kept_small n d e t r s = record { each = λ i j ii jj. pick (int_lt (d i j) (e i j)) (d i j) (t i j) (r.each i j ii jj) (s.each i j ii jj) }
  where
    pick : (b : Bool) (x y : ℤ) → unsigned_abs x ≤ 2 ^ 81 → unsigned_abs y ≤ 2 ^ 81 → unsigned_abs (if b then y else x) ≤ 2 ^ 81
    pick true x y p q = q
    pick false x y p q = p

-- ---- the closed matrix, in which every bound stands

module _ (n : ℕ) (d : ℕ → ℕ → Option ℤ) (c : IsClosedBy n d) (r : IsRangedBy (2 ^ 80) n d) where
  abbrev pub standing : Weights
  standing i j = unwrap_or (d i j) (pos (2 ^ 80))

  unwrapped : (o : Option ℤ) (x : ℤ) → o ≡ Some x → unwrap_or o (pos (2 ^ 80)) ≡ x
  unwrapped o x e = rw e refl

  stands_low : (i : ℕ) → i ≤ n → (x : ℤ) × (d i 0 ≡ Some x) × (x ≤ℤ pos (2 ^ 80))
  stands_low zero ii = (pos 0, c.zero 0 ii, omega (arith, ints))
  stands_low (suc i) ii = most_out (d (suc i) 0) (pos (2 ^ 80)) (r.below (suc i) (omega arith) ii)

  stands_high : (i : ℕ) → i ≤ n → (x : ℤ) × (d 0 i ≡ Some x) × (x ≤ℤ pos (2 ^ 80))
  stands_high zero ii = (pos 0, c.zero 0 ii, omega (arith, ints))
  stands_high (suc i) ii = most_out (d 0 (suc i)) (pos (2 ^ 80)) (r.above (suc i) (omega arith) ii)

  stands : (i j : ℕ) → i ≤ n → j ≤ n → (x : ℤ) × (d i j ≡ Some x)
  stands i j ii jj =
      let a = stands_low i ii in
      let b = stands_high j jj in
      let m = most_out (d i j) (a.0 +ℤ b.0) (c.triangle i j 0 a.0 b.0 ii jj (omega arith) a.1 b.1) in
      (m.0, m.1)

  pub standing_sound : IsSound n standing
  standing_sound = record {
    closed = record {
      zero = λ i ii. unwrapped (d i i) (pos 0) (c.zero i ii);
      triangle = λ i j k ii jj kk.
          let a = stands i k ii kk in
          let b = stands k j kk jj in
          let m = most_out (d i j) (a.0 +ℤ b.0) (c.triangle i j k a.0 b.0 ii jj kk a.1 b.1) in
          rw (unwrapped (d i j) m.0 m.1, unwrapped (d i k) a.0 a.1, unwrapped (d k j) b.0 b.1) m.2;
    };
    ranged = record {
      above = λ i ii. let b = stands_high i ii in rw (unwrapped (d 0 i) b.0 b.1) b.2;
      below = λ i ii. let a = stands_low i ii in rw (unwrapped (d i 0) a.0 a.1) a.2;
    };
  }

-- equal ranges
abbrev the_range : ℤ → ℤ → ℤ × ℤ
the_range l h = (l, h)

pub all_within : (b n : ℕ) (l h : ℤ) → unsigned_abs l ≤ b → unsigned_abs h ≤ b → AreWithin b (replicate n (l, h))
all_within b n l h ll hh = record { low_end = low_end; high_end = high_end }
  where
    len : length (replicate n (the_range l h)) ≡ n
    len = length-replicate n (the_range l h)

    low_end : (i : ℕ) → 1 ≤ i → i ≤ length (replicate n (the_range l h)) → unsigned_abs (get_or (replicate n (the_range l h)) (i - 1) (pos 0, pos 0)).0 ≤ b
    low_end i p q = (let k : i - 1 < n = omega (arith, p, q, len) in rw (get_or-replicate n (i - 1) (the_range l h) (pos 0, pos 0) k) ll)

    high_end : (i : ℕ) → 1 ≤ i → i ≤ length (replicate n (the_range l h)) → unsigned_abs (get_or (replicate n (the_range l h)) (i - 1) (pos 0, pos 0)).1 ≤ b
    high_end i p q = (let k : i - 1 < n = omega (arith, p, q, len) in rw (get_or-replicate n (i - 1) (the_range l h) (pos 0, pos 0) k) hh)

-- a matrix of the other crate that is being filled
pub record IsFilling (n : ℕ) (m : Bounds) : Type 0 where
  pub size : m.size ≡ n
  pub within : IsWithin (2 ^ 81) n (bound m)
  pub ranged : IsRangedBy (2 ^ 80) n (bound m)

pub filling : (n k : ℕ) (m : Bounds) → m.size ≡ k → IsWithin (2 ^ 81) k (bound m) → IsRangedBy (2 ^ 80) k (bound m) → k ≡ n → IsFilling n m
filling n k m s w r e = record {
  size = s ∙ e;
  within = subst (λ (k : ℕ). IsWithin (2 ^ 81) k (bound m)) e w;
  ranged = subst (λ (k : ℕ). IsRangedBy (2 ^ 80) k (bound m)) e r;
}

pub within_more : (k : ℕ) (m : Bounds) → m.size ≡ k → IsWithin (2 ^ 80) m.size (bound m) → IsWithin (2 ^ 81) k (bound m)
within_more k m e w = record { each = λ i j c ii jj is. let h = w.each i j c (omega (arith, e, ii)) (omega (arith, e, jj)) is in omega (arith, h) }

pub ranged_at : (k : ℕ) (m : Bounds) → m.size ≡ k → IsRangedBy (2 ^ 80) m.size (bound m) → IsRangedBy (2 ^ 80) k (bound m)
ranged_at k m e r = subst (λ (j : ℕ). IsRangedBy (2 ^ 80) j (bound m)) e r
