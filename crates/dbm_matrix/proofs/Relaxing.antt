-- Every bound by way of one new one.
use Rattle.std.proofs.Common.{◌≡◌, ℕ, ◌+◌, ◌*◌, ◌≤◌, ◌⊎◌, inl, inr, ℤ, pos, ◌+ℤ◌, Some, unsigned_abs, sym, ◌∙◌, arith, zero-le}
use Rattle.std.proofs.lemmas.Int.{ints}
use Rattle.dbm_matrix.specs.Bounds.{Weights, AtMost, IsWithin, IsRanged}
use Rattle.dbm_matrix.specs.Solutions.{Solves, Meets}
use Rattle.dbm_matrix.specs.Changes.{over, plus, sum_of}
use Rattle.dbm_matrix.proofs.Options.{lesser_cases, lesser_left, lesser_right, sum_cases, plus_some, most_out, most_more}

module _ (n i j : ℕ) (c : ℤ) (d e : Weights) (ii : i ≤ n) (jj : j ≤ n) (each : (p q : ℕ) → p ≤ n → q ≤ n → e p q ≡ over i j c d p q) where
  -- a new bound is an old one, or goes over the bound that was added
  pub relaxed_cases : (p q : ℕ) (x : ℤ) → p ≤ n → q ≤ n → e p q ≡ Some x → (d p q ≡ Some x) ⊎ ((a : ℤ) × (b : ℤ) × (d p i ≡ Some a) × (d j q ≡ Some b) × (x ≡ (a +ℤ c) +ℤ b))
  relaxed_cases p q x pp qq h = elim (lesser_cases (d p q) (sum_of (plus (d p i) c) (d j q)) x (sym (each p q pp qq) ∙ h)) [
    | inl k ↦ inl k
    | inr k ↦ inr (
        let s = sum_cases (plus (d p i) c) (d j q) x k in
        let t = plus_some (d p i) c s.0 s.2 in
        (t.0, s.1, t.1, s.3, omega (arith, ints, s.4, t.2)))
  ]

  pub relaxed_old : (p q : ℕ) (x : ℤ) → p ≤ n → q ≤ n → d p q ≡ Some x → AtMost (e p q) x
  relaxed_old p q x pp qq h = rw (each p q pp qq) (lesser_left (d p q) (sum_of (plus (d p i) c) (d j q)) x h)

  pub relaxed_over : (p q : ℕ) (a b : ℤ) → p ≤ n → q ≤ n → d p i ≡ Some a → d j q ≡ Some b → AtMost (e p q) ((a +ℤ c) +ℤ b)
  relaxed_over p q a b pp qq h k = rw (each p q pp qq) (lesser_right (d p q) (sum_of (plus (d p i) c) (d j q)) ((a +ℤ c) +ℤ b) (rw (h, k)))

  relaxed_most : (p q : ℕ) (w : ℤ) → p ≤ n → q ≤ n → AtMost (d p q) w → AtMost (e p q) w
  relaxed_most p q w pp qq h = let t = most_out (d p q) w h in most_more (e p q) t.0 w (relaxed_old p q t.0 pp qq t.1) t.2

  pub relax_within : (a b : ℕ) → IsWithin a n d → unsigned_abs c ≤ b → IsWithin (2 * a + b) n e
  relax_within a b w s = record {
    each = λ p q x pp qq h. elim (relaxed_cases p q x pp qq h) [
      | inl k ↦ omega (arith, w.each p q x pp qq k)
      | inr k ↦ omega (arith, ints, k.4, s, w.each p i k.0 pp ii k.2, w.each j q k.1 jj qq k.3)
    ];
  }

  pub relax_ranged : (b : ℕ) → IsRanged b n d → IsRanged b n e
  relax_ranged b r = record {
    above = λ p k pp. relaxed_most 0 p (pos b) zero-le pp (r.above p k pp);
    below = λ p k pp. relaxed_most p 0 (pos b) pp zero-le (r.below p k pp);
  }

  pub relax_solves : (v : ℕ → ℤ) → Solves n d v → Meets v i j c → Solves n e v
  relax_solves v s m = record {
    zero = s.zero;
    each = λ p q x pp qq h. elim (relaxed_cases p q x pp qq h) [
      | inl k ↦ s.each p q x pp qq k
      | inr k ↦ omega (arith, ints, k.4, m, s.each p i k.0 pp ii k.2, s.each j q k.1 jj qq k.3)
    ];
  }

  pub solves_relaxed : (v : ℕ → ℤ) → Solves n e v → Solves n d v
  solves_relaxed v s = record {
    zero = s.zero;
    each = λ p q x pp qq h.
        let t = most_out (e p q) x (relaxed_old p q x pp qq h) in
        omega (arith, ints, s.each p q t.0 pp qq t.1, t.2);
  }
