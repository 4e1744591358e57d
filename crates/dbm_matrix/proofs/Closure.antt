-- What is known of a matrix while it is closed, one variable after another.
use Rattle.std.proofs.Common.{◌≡◌, ◌≢◌, ℕ, ◌+◌, ◌*◌, ◌^◌, ◌<◌, ◌≤◌, ◌⊎◌, inl, inr, ℤ, pos, ◌+ℤ◌, ◌≤ℤ◌, ◌<ℤ◌, Some, unsigned_abs, refl, sym, ◌∙◌, ap, arith, add_assoc}
use Rattle.std.proofs.Math.Pow.{pow_mono}
use Rattle.std.proofs.lemmas.Nat.{pow-add}
use Rattle.std.proofs.lemmas.Int.{ints, by_lt_z}
use Rattle.std.proofs.lemmas.Bool.Decides.{eqb_tells}
use Rattle.dbm_matrix.specs.Bounds.{Weights, AtMost, IsWithin}
use Rattle.dbm_matrix.specs.Paths.{Path, HasNegativeCycle}
use Rattle.dbm_matrix.specs.Paths.Path.{here}
use Rattle.dbm_matrix.specs.Changes.{through, lesser, sum_of}
use Rattle.dbm_matrix.proofs.Paths.{joined, edge, IsBetween}
use Rattle.dbm_matrix.proofs.Options.{over_here, from_here, lesser_cases, lesser_left, lesser_right, sum_cases, most_out, most_more, most_self, some_same, unsigned_abs-sum}

-- no way over k is shorter than the bound
abbrev pub Triangle : ℕ → Weights → ℕ → Type 0
Triangle n d k = (i j : ℕ) (a b : ℤ) → i ≤ n → j ≤ n → d i k ≡ Some a → d k j ≡ Some b → AtMost (d i j) (a +ℤ b)

-- the variables below k have been gone through
pub record ClosedSoFar (n k : ℕ) (old now : Weights) : Type 0 where
  pub path : (i j : ℕ) (c : ℤ) → i ≤ n → j ≤ n → now i j ≡ Some c → Path n old i j c
  pub below : (i j : ℕ) (c : ℤ) → i ≤ n → j ≤ n → old i j ≡ Some c → AtMost (now i j) c
  pub zero : (i : ℕ) → i ≤ n → AtMost (now i i) (pos 0)
  pub triangle : (l : ℕ) → l < k → Triangle n now l
  pub within : IsWithin (2 ^ (90 + k)) n now

abbrev pub IsNegative : Weights → ℕ → Type 0
IsNegative d i = (c : ℤ) × (d i i ≡ Some c) × (c <ℤ pos 0)

pub by_le_z : (a b : ℤ) → a ≤ℤ b → ¬ (a <ℤ b) → a ≡ b
by_le_z a b h n = by_lt_z a b (λ q. absurd (n q)) (λ q. omega (arith, ints))

module _ (n k : ℕ) (old now new : Weights) (kk : k ≤ n) (at_k : now k k ≡ Some (pos 0)) (so : ClosedSoFar n k old now)
    (step : (i j : ℕ) → i ≤ n → j ≤ n → new i j ≡ through k now i j) where
  -- a new bound is an old one or goes over k
  new_cases : (i j : ℕ) (c : ℤ) → i ≤ n → j ≤ n → new i j ≡ Some c → (now i j ≡ Some c) ⊎ ((a : ℤ) × (b : ℤ) × (now i k ≡ Some a) × (now k j ≡ Some b) × (c ≡ a +ℤ b))
  new_cases i j c ii jj e = elim (lesser_cases (now i j) (sum_of (now i k) (now k j)) c (sym (step i j ii jj) ∙ e)) [
    | inl p ↦ inl p
    | inr p ↦ inr (sum_cases (now i k) (now k j) c p)
  ]

  new_left : (i j : ℕ) (c : ℤ) → i ≤ n → j ≤ n → now i j ≡ Some c → AtMost (new i j) c
  new_left i j c ii jj e = rw (step i j ii jj) (lesser_left (now i j) (sum_of (now i k) (now k j)) c e)

  new_right : (i j : ℕ) (a b : ℤ) → i ≤ n → j ≤ n → now i k ≡ Some a → now k j ≡ Some b → AtMost (new i j) (a +ℤ b)
  new_right i j a b ii jj e f = rw (step i j ii jj) (lesser_right (now i j) (sum_of (now i k) (now k j)) (a +ℤ b) (rw (e, f)))

  -- what was at most w is so still
  new_most : (i j : ℕ) (w : ℤ) → i ≤ n → j ≤ n → AtMost (now i j) w → AtMost (new i j) w
  new_most i j w ii jj h =
      let t = most_out (now i j) w h in
      most_more (new i j) t.0 w (new_left i j t.0 ii jj t.1) t.2

  -- what was at most a, and then at most b, is at most the sum over k
  new_over : (i j : ℕ) (a b : ℤ) → i ≤ n → j ≤ n → AtMost (now i k) a → AtMost (now k j) b → AtMost (new i j) (a +ℤ b)
  new_over i j a b ii jj h g =
      let t = most_out (now i k) a h in
      let u = most_out (now k j) b g in
      most_more (new i j) (t.0 +ℤ u.0) (a +ℤ b) (new_right i j t.0 u.0 ii jj t.1 u.1) (omega (arith, ints, t.2, u.2))

  path_next : (i j : ℕ) (c : ℤ) → i ≤ n → j ≤ n → new i j ≡ Some c → Path n old i j c
  path_next i j c ii jj e = elim (new_cases i j c ii jj e) [
    | inl p ↦ so.path i j c ii jj p
    | inr p ↦ rw p.4 (joined n old i j k p.0 p.1 (so.path i k p.0 ii kk p.2) (so.path k j p.1 kk jj p.3))
  ]

  same_to : (i : ℕ) → i ≤ n → new i k ≡ now i k
  same_to i ii = step i k ii kk ∙ (rw at_k (over_here (now i k)))

  same_from : (j : ℕ) → j ≤ n → new k j ≡ now k j
  same_from j jj = step k j kk jj ∙ (rw at_k (from_here (now k j)))

  triangle_k : Triangle n new k
  triangle_k i j a b ii jj e f = new_right i j a b ii jj (sym (same_to i ii) ∙ e) (sym (same_from j jj) ∙ f)

  triangle_below : (l : ℕ) → l < k → Triangle n new l
  triangle_below l h i j a b ii jj e f =
      elim (new_cases i l a ii (omega arith) e) [
        | inl p ↦ elim (new_cases l j b (omega arith) jj f) [
          | inl q ↦ new_most i j (a +ℤ b) ii jj (so.triangle l h i j a b ii jj p q)
          | inr q ↦ most_more (new i j) ((a +ℤ q.0) +ℤ q.1) (a +ℤ b)
              (new_over i j (a +ℤ q.0) q.1 ii jj (so.triangle l h i k a q.0 ii kk p q.2) (most_self (now k j) q.1 q.3)) (omega (arith, ints, q.4))
        ]
        | inr p ↦ elim (new_cases l j b (omega arith) jj f) [
          | inl q ↦ most_more (new i j) (p.0 +ℤ (p.1 +ℤ b)) (a +ℤ b)
              (new_over i j p.0 (p.1 +ℤ b) ii jj (most_self (now i k) p.0 p.2) (so.triangle l h k j p.1 b kk jj p.3 q)) (omega (arith, ints, p.4))
          | inr q ↦ most_more (new i j) (p.0 +ℤ q.1) (a +ℤ b)
              (new_right i j p.0 q.1 ii jj p.2 q.3)
              (let z = most_out (now k k) (p.1 +ℤ q.0) (so.triangle l h k k p.1 q.0 kk kk p.3 q.2) in
              let z0 : z.0 ≡ pos 0 = some_same z.0 (pos 0) (sym z.1 ∙ at_k) in
              omega (arith, ints, p.4, q.4, z.2, z0))
        ]
      ]

  pub closed_next : IsWithin (2 ^ (90 + (k + 1))) n new → ClosedSoFar n (k + 1) old new
  closed_next w = record {
    path = path_next;
    below = λ i j c ii jj e. new_most i j c ii jj (so.below i j c ii jj e);
    zero = λ i ii. new_most i i (pos 0) ii ii (so.zero i ii);
    triangle = λ l h. elim (eqb_tells l k) [
      | inl e ↦ rw e.1 triangle_k
      | inr e ↦ triangle_below l (omega arith)
    ];
    within = w;
  }

-- with the diagonal cleared, none of the variables has been gone through
module _ (n : ℕ) (old now : Weights)
    (diagonal : (i : ℕ) → i ≤ n → now i i ≡ lesser (old i i) (Some (pos 0)))
    (others : (i j : ℕ) → j ≤ n → i ≢ j → now i j ≡ old i j) (within : IsWithin (2 ^ 90) n old) where
  first_path : (i j : ℕ) (c : ℤ) → i ≤ n → j ≤ n → now i j ≡ Some c → Path n old i j c
  first_path i j c ii jj e = elim (eqb_tells i j) [
    | inl q ↦ rw (← q.1) (elim (lesser_cases (old i i) (Some (pos 0)) c (sym (diagonal i ii) ∙ (rw (ap (now i) q.1) e))) [
      | inl p ↦ edge n old i i c ii ii p
      | inr p ↦ rw (sym (some_same (pos 0) c p)) (here ii)
    ])
    | inr q ↦ edge n old i j c ii jj (sym (others i j jj q.1) ∙ e)
  ]

  first_below : (i j : ℕ) (c : ℤ) → i ≤ n → j ≤ n → old i j ≡ Some c → AtMost (now i j) c
  first_below i j c ii jj e = elim (eqb_tells i j) [
    | inl q ↦ rw (← q.1) (rw (diagonal i ii) (lesser_left (old i i) (Some (pos 0)) c (rw (ap (old i) q.1) e)))
    | inr q ↦ rw (others i j jj q.1) (most_self (old i j) c e)
  ]

  first_within : (i j : ℕ) (c : ℤ) → i ≤ n → j ≤ n → now i j ≡ Some c → unsigned_abs c ≤ 2 ^ (90 + 0)
  first_within i j c ii jj e = elim (eqb_tells i j) [
    | inl q ↦ elim (lesser_cases (old i i) (Some (pos 0)) c (sym (diagonal i ii) ∙ (rw (ap (now i) q.1) e))) [
      | inl p ↦ within.each i i c ii ii p
      | inr p ↦ rw (sym (some_same (pos 0) c p)) (omega arith)
    ]
    | inr q ↦ within.each i j c ii jj (sym (others i j jj q.1) ∙ e)
  ]

  pub closed_first : ClosedSoFar n 0 old now
  closed_first = record {
    path = first_path;
    below = first_below;
    zero = λ i ii. rw (diagonal i ii) (lesser_right (old i i) (Some (pos 0)) (pos 0) refl);
    triangle = λ l h. absurd (omega arith);
    within = record { each = first_within };
  }

-- no bound gets more than twice as great
pub through_within : (b n k : ℕ) (old now : Weights) (r s : ℕ) → IsWithin b n old → k ≤ n → r ≤ n → s ≤ n → now r s ≡ through k old r s → (c : ℤ) → now r s ≡ Some c → unsigned_abs c ≤ 2 * b
through_within b n k old now r s h kk rr ss e c q = elim (lesser_cases (old r s) (sum_of (old r k) (old k s)) c (sym e ∙ q)) [
  | inl p ↦ omega (arith, h.each r s c rr ss p)
  | inr p ↦ (let t = sum_cases (old r k) (old k s) c p in rw t.4 (unsigned_abs-sum t.0 t.1 b (h.each r k t.0 rr kk t.2) (h.each k s t.1 kk ss t.3)))
]

next_power : (k : ℕ) → 2 ^ (90 + (k + 1)) ≡ 2 * 2 ^ (90 + k)
next_power k = omega (arith, pow-add 2 (90 + k) 1, ap (λ (e : ℕ). 2 ^ e) (add_assoc 90 k 1))

pub doubled : (k n : ℕ) (now new : Weights) → k ≤ n → IsWithin (2 ^ (90 + k)) n now → ((i j : ℕ) → i ≤ n → j ≤ n → new i j ≡ through k now i j) → IsWithin (2 ^ (90 + (k + 1))) n new
doubled k n now new kk w step = record {
  each = λ i j c ii jj e.
      let h = through_within (2 ^ (90 + k)) n k now new i j w kk ii jj (step i j ii jj) c e in
      let p : 2 ^ (90 + (k + 1)) ≡ 2 * 2 ^ (90 + k) = next_power k in
      omega (arith, h, p);
}

-- what fits the bound so far fits the bound that a step asks for
pub in_reach : (k n : ℕ) (now : Weights) → k < 17 → IsWithin (2 ^ (90 + k)) n now → IsWithin (2 ^ 119) n now
in_reach k n now kk w = record {
  each = λ i j c ii jj e. let q : 90 + k ≤ 119 = omega arith in let p : 2 ^ (90 + k) ≤ 2 ^ 119 = pow_mono q in omega (arith, p, w.each i j c ii jj e);
}

pub cycle : (n k i : ℕ) (old now : Weights) → ClosedSoFar n k old now → i ≤ n → IsNegative now i → HasNegativeCycle n old
cycle n k i old now so ii h = (i, h.0, so.path i i h.0 ii ii h.1, h.2)

-- a diagonal that has no negative bound has 0
pub zero_at : (n k i : ℕ) (old now : Weights) → ClosedSoFar n k old now → i ≤ n → ¬ (IsNegative now i) → now i i ≡ Some (pos 0)
zero_at n k i old now so ii h =
    let t = most_out (now i i) (pos 0) (so.zero i ii) in
    let e : t.0 ≡ pos 0 = by_le_z t.0 (pos 0) t.2 (λ q. h (t.0, t.1, q)) in
    t.1 ∙ ap Some e

-- the end
pub ended : (n k : ℕ) (old now : Weights) → ClosedSoFar n k old now → n + 1 ≤ k → ((i : ℕ) → i ≤ n → ¬ (IsNegative now i)) → IsBetween n old now
ended n k old now so end none = record {
  closed = record {
    zero = λ i ii. zero_at n k i old now so ii (none i ii);
    triangle = λ i j l a b ii jj ll e f. so.triangle l (omega arith) i j a b ii jj e f;
  };
  path = so.path;
  below = so.below;
}
