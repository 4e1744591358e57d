-- Two matrices of one size in one: join and widening.
use Rattle.std.proofs.Common.{◌≡◌, ℕ, ◌≤◌, ◌⊎◌, inl, inr, ℤ, pos, ◌+ℤ◌, ◌≤ℤ◌, Some, refl, sym, ◌∙◌, arith, zero-le}
use Rattle.std.proofs.lemmas.Int.{ints}
use Rattle.dbm_matrix.specs.Bounds.{Weights, AtMost, IsWithin, IsRanged}
use Rattle.dbm_matrix.specs.Paths.{IsClosed}
use Rattle.dbm_matrix.specs.Solutions.{Solves}
use Rattle.dbm_matrix.specs.Changes.{greater, stable}
use Rattle.dbm_matrix.proofs.Options.{greater_some, greater_most, stable_some, most_more}

module _ (n m : ℕ) (a b e : Weights) (same : n ≡ m) (each : (i j : ℕ) → i ≤ n → j ≤ n → e i j ≡ greater (a i j) (b i j)) where
  parts : (i j : ℕ) (c : ℤ) → i ≤ n → j ≤ n → e i j ≡ Some c → (x : ℤ) × (y : ℤ) × (a i j ≡ Some x) × (b i j ≡ Some y) × (x ≤ℤ c) × (y ≤ℤ c) × ((c ≡ x) ⊎ (c ≡ y))
  parts i j c ii jj q = greater_some (a i j) (b i j) c (sym (each i j ii jj) ∙ q)

  join_triangle : IsClosed n a → IsClosed m b → (i j k : ℕ) (x y : ℤ) → i ≤ n → j ≤ n → k ≤ n → e i k ≡ Some x → e k j ≡ Some y → AtMost (e i j) (x +ℤ y)
  join_triangle ca cb i j k x y ii jj kk q r =
      let p = parts i k x ii kk q in
      let s = parts k j y kk jj r in
      let ta = ca.triangle i j k p.0 s.0 ii jj kk p.2 s.2 in
      let tb = cb.triangle i j k p.1 s.1 (omega arith) (omega arith) (omega arith) p.3 s.3 in
      rw (each i j ii jj) (greater_most (a i j) (b i j) (x +ℤ y)
      (most_more (a i j) (p.0 +ℤ s.0) (x +ℤ y) ta (omega (arith, ints, p.4, s.4)))
      (most_more (b i j) (p.1 +ℤ s.1) (x +ℤ y) tb (omega (arith, ints, p.5, s.5))))

  pub join_closed : IsClosed n a → IsClosed m b → IsClosed n e
  join_closed ca cb = record {
    zero = λ i ii. each i i ii ii ∙ (rw (ca.zero i ii, cb.zero i (omega arith)) refl);
    triangle = join_triangle ca cb;
  }

  pub join_within : (h : ℕ) → IsWithin h n a → IsWithin h m b → IsWithin h n e
  join_within h wa wb = record {
    each = λ i j c ii jj q. let p = parts i j c ii jj q in elim p.6 [
      | inl s ↦ rw s (wa.each i j p.0 ii jj p.2)
      | inr s ↦ rw s (wb.each i j p.1 (omega arith) (omega arith) p.3)
    ];
  }

  pub join_ranged : (h : ℕ) → IsRanged h n a → IsRanged h m b → IsRanged h n e
  join_ranged h ra rb = record {
    above = λ i p ii. rw (each 0 i zero-le ii) (greater_most (a 0 i) (b 0 i) (pos h) (ra.above i p ii) (rb.above i p (omega arith)));
    below = λ i p ii. rw (each i 0 ii zero-le) (greater_most (a i 0) (b i 0) (pos h) (ra.below i p ii) (rb.below i p (omega arith)));
  }

  pub join_first : (v : ℕ → ℤ) → Solves n a v → Solves n e v
  join_first v s = record {
    zero = s.zero;
    each = λ i j c ii jj q. let p = parts i j c ii jj q in omega (arith, ints, s.each i j p.0 ii jj p.2, p.4);
  }

  pub join_second : (v : ℕ → ℤ) → Solves m b v → Solves n e v
  join_second v s = record {
    zero = s.zero;
    each = λ i j c ii jj q. let p = parts i j c ii jj q in omega (arith, ints, s.each i j p.1 (omega arith) (omega arith) p.3, p.5);
  }

module _ (n m : ℕ) (a b e : Weights) (same : n ≡ m) (each : (i j : ℕ) → i ≤ n → j ≤ n → e i j ≡ stable (a i j) (b i j)) where
  kept : (i j : ℕ) (c : ℤ) → i ≤ n → j ≤ n → e i j ≡ Some c → (y : ℤ) × (a i j ≡ Some c) × (b i j ≡ Some y) × (y ≤ℤ c)
  kept i j c ii jj q = stable_some (a i j) (b i j) c (sym (each i j ii jj) ∙ q)

  pub widen_within : (h : ℕ) → IsWithin h n a → IsWithin h n e
  widen_within h wa = record { each = λ i j c ii jj q. wa.each i j c ii jj (kept i j c ii jj q).1 }

  pub widen_first : (v : ℕ → ℤ) → Solves n a v → Solves n e v
  widen_first v s = record { zero = s.zero; each = λ i j c ii jj q. s.each i j c ii jj (kept i j c ii jj q).1 }

  pub widen_second : (v : ℕ → ℤ) → Solves m b v → Solves n e v
  widen_second v s = record {
    zero = s.zero;
    each = λ i j c ii jj q. let p = kept i j c ii jj q in omega (arith, ints, s.each i j p.0 (omega arith) (omega arith) p.2, p.3);
  }
