-- Solutions and ranges of a matrix and of its closed form; those of a list of ranges, and of one bound more.
use Rattle.std.proofs.Common.{◌≡◌, ◌≢◌, ℕ, ◌≤◌, ◌⊎◌, inl, inr, ℤ, pos, ◌+ℤ◌, ◌≤ℤ◌, neg_ℤ, Some, List, length, unsigned_abs, refl, sym, ◌∙◌, ap, arith, zero-le}
use Rattle.std.proofs.lemmas.Int.{ints}
use Rattle.std.proofs.lemmas.Bool.Decides.{eqb_tells}
use Rattle.dbm_matrix.specs.Bounds.{Weights, AtMost, IsWithin, IsRanged}
use Rattle.dbm_matrix.specs.Paths.{Path, IsClosureOf, HasNegativeCycle}
use Rattle.dbm_matrix.specs.Paths.Path.{here, along}
use Rattle.dbm_matrix.specs.Solutions.{Solves, Meets, IsInside}
use Rattle.dbm_matrix.specs.Changes.{initial, low, high, AreWithin, with_bound}
use Rattle.dbm_matrix.proofs.Options.{most_out, most_more, some_same, lesser_cases, lesser_left, lesser_right, none_some}
use Rattle.dbm_matrix.proofs.Paths.{start_of, edge}

-- along a path the values grow by no more than its weight
pub solved_path : (n : ℕ) (d : Weights) (v : ℕ → ℤ) → Solves n d v → (i j : ℕ) (w : ℤ) → Path n d i j w → v j ≤ℤ (v i +ℤ w)
solved_path n d v s i j w (here h) = omega (arith, ints)
solved_path n d v s i j w (along k c u h e p l) = omega (arith, ints, s.each i k c h (start_of n d k j u p) e, solved_path n d v s k j u p, l)

pub no_solution : (n : ℕ) (d : Weights) → HasNegativeCycle n d → (v : ℕ → ℤ) → Solves n d v → ⊥
no_solution n d h v s = omega (arith, ints, solved_path n d v s h.0 h.0 h.1 h.2, h.3)

pub closure_solves : (n : ℕ) (d e : Weights) → IsClosureOf n d e → (v : ℕ → ℤ) → Solves n d v → Solves n e v
closure_solves n d e h v s = record {
  zero = s.zero;
  each = λ i j c ii jj p. solved_path n d v s i j c ((h.each i j ii jj).path c p);
}

pub solves_closure : (n : ℕ) (d e : Weights) → IsClosureOf n d e → (v : ℕ → ℤ) → Solves n e v → Solves n d v
solves_closure n d e h v s = record {
  zero = s.zero;
  each = λ i j c ii jj p.
      let t = most_out (e i j) c ((h.each i j ii jj).least c (edge n d i j c ii jj p)) in
      omega (arith, ints, s.each i j t.0 ii jj t.1, t.2);
}

pub closure_ranged : (n : ℕ) (d e : Weights) → IsClosureOf n d e → (b : ℕ) → IsRanged b n d → IsRanged b n e
closure_ranged n d e h b r = record {
  above = λ i p ii.
      let t = most_out (d 0 i) (pos b) (r.above i p ii) in
      most_more (e 0 i) t.0 (pos b) ((h.each 0 i zero-le ii).least t.0 (edge n d 0 i t.0 zero-le ii t.1)) t.2;
  below = λ i p ii.
      let t = most_out (d i 0) (pos b) (r.below i p ii) in
      most_more (e i 0) t.0 (pos b) ((h.each i 0 ii zero-le).least t.0 (edge n d i 0 t.0 ii zero-le t.1)) t.2;
}

-- one bound more
module _ (n i j : ℕ) (c : ℤ) (d e : Weights) (ii : i ≤ n) (jj : j ≤ n) (each : (p q : ℕ) → p ≤ n → q ≤ n → e p q ≡ with_bound i j c d p q) where
  -- a bound that stands stood, or is the new one
  pub added_out : (p q : ℕ) (x : ℤ) → p ≤ n → q ≤ n → e p q ≡ Some x → (d p q ≡ Some x) ⊎ ((p ≡ i) × (q ≡ j) × (x ≡ c))
  added_out p q x pp qq h = elim (eqb_tells p i) [
    | inl a ↦ elim (eqb_tells q j) [
      | inl b ↦ elim (lesser_cases (d p q) (Some c) x (sym (each p q pp qq ∙ (rw (a.0, b.0) refl)) ∙ h)) [
        | inl s ↦ inl s
        | inr s ↦ inr (a.1, b.1, sym (some_same c x s))
      ]
      | inr b ↦ inl (sym (each p q pp qq ∙ (rw (a.0, b.0) refl)) ∙ h)
    ]
    | inr a ↦ inl (sym (each p q pp qq ∙ (rw a.0 refl)) ∙ h)
  ]

  -- what stood is bounded as before
  pub added_old : (p q : ℕ) (x : ℤ) → p ≤ n → q ≤ n → d p q ≡ Some x → AtMost (e p q) x
  added_old p q x pp qq h = elim (eqb_tells p i) [
    | inl a ↦ elim (eqb_tells q j) [
      | inl b ↦ rw (each p q pp qq, a.0, b.0) (lesser_left (d p q) (Some c) x h)
      | inr b ↦ rw (each p q pp qq, a.0, b.0, h) (omega (arith, ints))
    ]
    | inr a ↦ rw (each p q pp qq, a.0, h) (omega (arith, ints))
  ]

  pub added_new : AtMost (e i j) c
  added_new = elim (eqb_tells i i) [
    | inl a ↦ elim (eqb_tells j j) [
      | inl b ↦ rw (each i j ii jj, a.0, b.0) (lesser_right (d i j) (Some c) c refl)
      | inr b ↦ absurd (b.1 refl)
    ]
    | inr a ↦ absurd (a.1 refl)
  ]

  pub add_solves : (v : ℕ → ℤ) → Solves n d v → Meets v i j c → Solves n e v
  add_solves v s m = record {
    zero = s.zero;
    each = λ p q x pp qq h. elim (added_out p q x pp qq h) [
      | inl k ↦ s.each p q x pp qq k
      | inr k ↦ rw (k.0, k.1, k.2) m
    ];
  }

  pub solves_add : (v : ℕ → ℤ) → Solves n e v → Solves n d v × Meets v i j c
  solves_add v s = (
    record {
      zero = s.zero;
      each = λ p q x pp qq h.
          let t = most_out (e p q) x (added_old p q x pp qq h) in
          omega (arith, ints, s.each p q t.0 pp qq t.1, t.2);
    },
    (let t = most_out (e i j) c added_new in omega (arith, ints, s.each i j t.0 ii jj t.1, t.2)),
  )

-- ranges
module _ (n : ℕ) (ranges : List (ℤ × ℤ)) (e : Weights) (long : length ranges ≡ n) (each : (i j : ℕ) → i ≤ n → j ≤ n → e i j ≡ initial ranges i j) where
  -- which of the ranges a bound that stands comes from
  data Source (i j : ℕ) (x : ℤ) : Type 0 where
    diagonal : i ≡ j → x ≡ pos 0 → Source i j x
    above : i ≡ 0 → 1 ≤ j → x ≡ high ranges j → Source i j x
    below : j ≡ 0 → 1 ≤ i → x ≡ neg_ℤ (low ranges i) → Source i j x

  source : (i j : ℕ) (x : ℤ) → i ≤ n → j ≤ n → e i j ≡ Some x → Source i j x
  source i j x ii jj h = elim (eqb_tells i j) [
    | inl a ↦ diagonal a.1 (sym (some_same (pos 0) x (sym (each i j ii jj ∙ (rw a.0 refl)) ∙ h)))
    | inr a ↦ elim (eqb_tells i 0) [
      | inl b ↦ above b.1 (let m : j ≢ 0 = λ q. a.1 (b.1 ∙ sym q) in omega (arith, m)) (sym (some_same (high ranges j) x (sym (each i j ii jj ∙ (rw (a.0, b.0) refl)) ∙ h)))
      | inr b ↦ elim (eqb_tells j 0) [
        | inl c ↦ below c.1 (omega (arith, b.1)) (sym (some_same (neg_ℤ (low ranges i)) x (sym (each i j ii jj ∙ (rw (a.0, b.0, c.0) refl)) ∙ h)))
        | inr c ↦ absurd (none_some (e i j) x (each i j ii jj ∙ (rw (a.0, b.0, c.0) refl)) h)
      ]
    ]
  ]

  above_is : (i : ℕ) → 1 ≤ i → i ≤ n → e 0 i ≡ Some (high ranges i)
  above_is i p ii = elim (eqb_tells 0 i) [ inl a ↦ absurd (omega (arith, a.1)) | inr a ↦ each 0 i zero-le ii ∙ (rw a.0 refl) ]

  below_is : (i : ℕ) → 1 ≤ i → i ≤ n → e i 0 ≡ Some (neg_ℤ (low ranges i))
  below_is i p ii = elim (eqb_tells i 0) [ inl a ↦ absurd (omega (arith, a.1)) | inr a ↦ each i 0 ii zero-le ∙ (rw a.0 refl) ]

  pub new_within : (b : ℕ) → AreWithin b ranges → IsWithin b n e
  new_within b w = record {
    each = λ i j x ii jj h. by_source i j x ii jj (source i j x ii jj h);
  }
    where
      by_source : (i j : ℕ) (x : ℤ) → i ≤ n → j ≤ n → Source i j x → unsigned_abs x ≤ b
      by_source i j x ii jj (diagonal p q) = rw q (omega arith)
      by_source i j x ii jj (above p k q) = rw q (w.high_end j k (omega arith))
      by_source i j x ii jj (below p k q) = omega (arith, ints, q, w.low_end i k (omega arith))

  pub new_ranged : (b : ℕ) → AreWithin b ranges → IsRanged b n e
  new_ranged b w = record {
    above = λ i p ii. rw (above_is i p ii) (omega (arith, ints, w.high_end i p (omega arith)));
    below = λ i p ii. rw (below_is i p ii) (omega (arith, ints, w.low_end i p (omega arith)));
  }

  pub new_solves : (v : ℕ → ℤ) → IsInside ranges v → Solves n e v
  new_solves v s = record { zero = s.zero; each = λ i j x ii jj h. by_source i j x ii jj (source i j x ii jj h) }
    where
      by_source : (i j : ℕ) (x : ℤ) → i ≤ n → j ≤ n → Source i j x → Meets v i j x
      by_source i j x ii jj (diagonal p q) = let k : v j ≡ v i = ap v (sym p) in omega (arith, ints, k, q)
      by_source i j x ii jj (above p k q) = let z : v i ≡ v 0 = ap v p in omega (arith, ints, q, z, s.zero, s.below j k (omega arith))
      by_source i j x ii jj (below p k q) = let z : v j ≡ v 0 = ap v p in omega (arith, ints, q, z, s.zero, s.above i k (omega arith))

  pub solves_new : (v : ℕ → ℤ) → Solves n e v → IsInside ranges v
  solves_new v s = record {
    zero = s.zero;
    above = λ i p ii. let k : i ≤ n = omega arith in omega (arith, ints, s.zero, s.each i 0 (neg_ℤ (low ranges i)) k zero-le (below_is i p k));
    below = λ i p ii. let k : i ≤ n = omega arith in omega (arith, ints, s.zero, s.each 0 i (high ranges i) zero-le k (above_is i p k));
  }

-- the bounds of a variable
pub in_bounds : (n : ℕ) (d : Weights) (i : ℕ) (l h : ℤ) (v : ℕ → ℤ) → i ≤ n → d i 0 ≡ Some l → d 0 i ≡ Some h → Solves n d v → (neg_ℤ l ≤ℤ v i) × (v i ≤ℤ h)
in_bounds n d i l h v ii p q s = (omega (arith, ints, s.zero, s.each i 0 l ii zero-le p), omega (arith, ints, s.zero, s.each 0 i h zero-le ii q))
