-- One bound more in a closed matrix, with no negative way back: the ways over it close the matrix again.
use Rattle.std.proofs.Common.{◌≡◌, ◌≢◌, ℕ, ◌≤◌, ◌⊎◌, inl, inr, ℤ, pos, ◌+ℤ◌, ◌≤ℤ◌, ◌<ℤ◌, Option, Some, None, Bool, true, false, cond, int_lt, refl, sym, ◌∙◌, ap, arith}
use Rattle.std.proofs.lemmas.Int.{ints}
use Rattle.std.proofs.lemmas.Bool.Decides.{eqb_tells}
use Rattle.dbm_matrix.specs.Bounds.{Weights, AtMost}
use Rattle.dbm_matrix.specs.Paths.{Path, IsClosed, HasNegativeCycle}
use Rattle.dbm_matrix.specs.Changes.{with_bound, over, lesser}
use Rattle.dbm_matrix.proofs.Options.{most_out, most_more, most_self, some_same, lesser_cases, lesser_right}
use Rattle.dbm_matrix.proofs.Paths.{edge, joined, IsBetween}
use Rattle.dbm_matrix.proofs.Closure.{by_le_z}
use Rattle.dbm_matrix.proofs.Relaxing.{relaxed_cases, relaxed_old, relaxed_over}

lesser_first : (x y : ℤ) → x ≤ℤ y → lesser (Some x) (Some y) ≡ Some x
lesser_first x y h = by_test (int_lt y x) refl
  where
    by_test : (t : Bool) → int_lt y x ≡ t → Some (cond t y x) ≡ Some x
    by_test true e = absurd (grind (arith, ints))
    by_test false e = refl

lesser_second : (o : Option ℤ) (y : ℤ) → ((x : ℤ) → o ≡ Some x → y ≤ℤ x) → lesser o (Some y) ≡ Some y
lesser_second None y h = refl
lesser_second (Some x) y h = by_test (int_lt y x) refl
  where
    by_test : (t : Bool) → int_lt y x ≡ t → Some (cond t y x) ≡ Some y
    by_test true e = refl
    by_test false e = let k : x ≤ℤ y = grind (arith, ints) in ap Some (omega (arith, ints, h x refl, k))

-- the bounds with one more, there and elsewhere
pub bound_there : (i j : ℕ) (c : ℤ) (d : Weights) → with_bound i j c d i j ≡ lesser (d i j) (Some c)
bound_there i j c d = elim (eqb_tells i i) [
  | inl a ↦ elim (eqb_tells j j) [ inl b ↦ rw (a.0, b.0) refl | inr b ↦ absurd (b.1 refl) ]
  | inr a ↦ absurd (a.1 refl)
]

pub bound_else : (i j : ℕ) (c : ℤ) (d : Weights) (p q : ℕ) → ¬ ((p ≡ i) × (q ≡ j)) → with_bound i j c d p q ≡ d p q
bound_else i j c d p q n = elim (eqb_tells p i) [
  | inl a ↦ elim (eqb_tells q j) [ inl b ↦ absurd (n (a.1, b.1)) | inr b ↦ rw (a.0, b.0) refl ]
  | inr a ↦ rw a.0 refl
]

place : (i j p q : ℕ) → ((p ≡ i) × (q ≡ j)) ⊎ (¬ ((p ≡ i) × (q ≡ j)))
place i j p q = elim (eqb_tells p i) [
  | inl a ↦ elim (eqb_tells q j) [ inl b ↦ inl (a.1, b.1) | inr b ↦ inr (λ h. b.1 h.1) ]
  | inr a ↦ inr (λ h. a.1 h.0)
]

module _ (n i j : ℕ) (c : ℤ) (d e : Weights) (ii : i ≤ n) (jj : j ≤ n) (closed : IsClosed n d)
    (each : (p q : ℕ) → p ≤ n → q ≤ n → e p q ≡ over i j c d p q) (back : (b : ℤ) → d j i ≡ Some b → pos 0 ≤ℤ (b +ℤ c)) where
  cases : (p q : ℕ) (x : ℤ) → p ≤ n → q ≤ n → e p q ≡ Some x → (d p q ≡ Some x) ⊎ ((a : ℤ) × (b : ℤ) × (d p i ≡ Some a) × (d j q ≡ Some b) × (x ≡ (a +ℤ c) +ℤ b))
  cases = relaxed_cases n i j c d e ii jj each

  left : (p q : ℕ) (x : ℤ) → p ≤ n → q ≤ n → d p q ≡ Some x → AtMost (e p q) x
  left = relaxed_old n i j c d e ii jj each

  right : (p q : ℕ) (a b : ℤ) → p ≤ n → q ≤ n → d p i ≡ Some a → d j q ≡ Some b → AtMost (e p q) ((a +ℤ c) +ℤ b)
  right = relaxed_over n i j c d e ii jj each

  left_most : (p q : ℕ) (w : ℤ) → p ≤ n → q ≤ n → AtMost (d p q) w → AtMost (e p q) w
  left_most p q w pp qq h = let t = most_out (d p q) w h in most_more (e p q) t.0 w (left p q t.0 pp qq t.1) t.2

  right_most : (p q : ℕ) (a b : ℤ) → p ≤ n → q ≤ n → AtMost (d p i) a → AtMost (d j q) b → AtMost (e p q) ((a +ℤ c) +ℤ b)
  right_most p q a b pp qq h g =
      let t = most_out (d p i) a h in
      let u = most_out (d j q) b g in
      most_more (e p q) ((t.0 +ℤ c) +ℤ u.0) ((a +ℤ c) +ℤ b) (right p q t.0 u.0 pp qq t.1 u.1) (omega (arith, ints, t.2, u.2))

  tight_triangle : (p q r : ℕ) (a b : ℤ) → p ≤ n → q ≤ n → r ≤ n → e p r ≡ Some a → e r q ≡ Some b → AtMost (e p q) (a +ℤ b)
  tight_triangle p q r a b pp qq rr h k =
      elim (cases p r a pp rr h) [
        | inl s ↦ elim (cases r q b rr qq k) [
          | inl t ↦ left_most p q (a +ℤ b) pp qq (closed.triangle p q r a b pp qq rr s t)
          | inr t ↦ most_more (e p q) (((a +ℤ t.0) +ℤ c) +ℤ t.1) (a +ℤ b)
              (right_most p q (a +ℤ t.0) t.1 pp qq (closed.triangle p i r a t.0 pp ii rr s t.2) (most_self (d j q) t.1 t.3)) (omega (arith, ints, t.4))
        ]
        | inr s ↦ elim (cases r q b rr qq k) [
          | inl t ↦ most_more (e p q) ((s.0 +ℤ c) +ℤ (s.1 +ℤ b)) (a +ℤ b)
              (right_most p q s.0 (s.1 +ℤ b) pp qq (most_self (d p i) s.0 s.2) (closed.triangle j q r s.1 b jj qq rr s.3 t)) (omega (arith, ints, s.4))
          | inr t ↦ most_more (e p q) ((s.0 +ℤ c) +ℤ t.1) (a +ℤ b) (right p q s.0 t.1 pp qq s.2 t.3)
              (let z = most_out (d j i) (s.1 +ℤ t.0) (closed.triangle j i r s.1 t.0 jj ii rr s.3 t.2) in
              omega (arith, ints, s.4, t.4, z.2, back z.0 z.1))
        ]
      ]

  tight_zero : (p : ℕ) → p ≤ n → e p p ≡ Some (pos 0)
  tight_zero p pp =
      let t = most_out (e p p) (pos 0) (left p p (pos 0) pp pp (closed.zero p pp)) in
      elim (cases p p t.0 pp pp t.1) [
        | inl h ↦ t.1 ∙ (sym h ∙ closed.zero p pp)
        | inr h ↦ (
            let z = most_out (d j i) (h.1 +ℤ h.0) (closed.triangle j i p h.1 h.0 jj ii pp h.3 h.2) in
            let q : t.0 ≡ pos 0 = by_le_z t.0 (pos 0) t.2 (λ q. omega (arith, ints, q, h.4, z.2, back z.0 z.1)) in
            t.1 ∙ ap Some q)
      ]

  here_most : AtMost (e i j) c
  here_most = most_more (e i j) ((pos 0 +ℤ c) +ℤ pos 0) c (right i j (pos 0) (pos 0) ii jj (closed.zero i ii) (closed.zero j jj)) (omega (arith, ints))

  tight_below : (p q : ℕ) (x : ℤ) → p ≤ n → q ≤ n → with_bound i j c d p q ≡ Some x → AtMost (e p q) x
  tight_below p q x pp qq h = by_place (place i j p q)
    where
      by_place : ((p ≡ i) × (q ≡ j)) ⊎ (¬ ((p ≡ i) × (q ≡ j))) → AtMost (e p q) x
      by_place (inl k) =
          let at_ij : lesser (d i j) (Some c) ≡ Some x = sym (bound_there i j c d) ∙ (ap (λ (r : ℕ). with_bound i j c d r j) (sym k.0) ∙ (ap (λ (r : ℕ). with_bound i j c d p r) (sym k.1) ∙ h)) in
          rw (k.0, k.1) (elim (lesser_cases (d i j) (Some c) x at_ij) [
            | inl a ↦ left i j x ii jj a
            | inr a ↦ (let z : c ≡ x = some_same c x a in rw (sym z) here_most)
          ])
      by_place (inr k) = left p q x pp qq (sym (bound_else i j c d p q k) ∙ h)

  edge_else : (p q : ℕ) (x : ℤ) → p ≤ n → q ≤ n → ¬ ((p ≡ i) × (q ≡ j)) → d p q ≡ Some x → Path n (with_bound i j c d) p q x
  edge_else p q x pp qq k h = edge n (with_bound i j c d) p q x pp qq (bound_else i j c d p q k ∙ h)

  old_path : (p q : ℕ) (x : ℤ) → p ≤ n → q ≤ n → e p q ≡ Some x → d p q ≡ Some x → Path n (with_bound i j c d) p q x
  old_path p q x pp qq h f = elim (place i j p q) [
    | inl k ↦ (
        let t = most_out (e i j) c here_most in
        let h' : e i j ≡ Some x = ap (λ (r : ℕ). e r j) (sym k.0) ∙ (ap (λ (r : ℕ). e p r) (sym k.1) ∙ h) in
        let f' : d i j ≡ Some x = ap (λ (r : ℕ). d r j) (sym k.0) ∙ (ap (λ (r : ℕ). d p r) (sym k.1) ∙ f) in
        let z : t.0 ≡ x = some_same t.0 x (sym t.1 ∙ h') in
        let le : x ≤ℤ c = omega (arith, ints, z, t.2) in
        rw (k.0, k.1) (edge n (with_bound i j c d) i j x ii jj (bound_there i j c d ∙ (rw f' (lesser_first x c le)))))
    | inr k ↦ edge_else p q x pp qq k f
  ]

  tight_path : i ≢ j → (p q : ℕ) (x : ℤ) → p ≤ n → q ≤ n → e p q ≡ Some x → Path n (with_bound i j c d) p q x
  tight_path apart p q x pp qq h = by_case (cases p q x pp qq h)
    where
      by_case : (d p q ≡ Some x) ⊎ ((a : ℤ) × (b : ℤ) × (d p i ≡ Some a) × (d j q ≡ Some b) × (x ≡ (a +ℤ c) +ℤ b)) → Path n (with_bound i j c d) p q x
      by_case (inl f) = old_path p q x pp qq h f
      by_case (inr s) =
          let first = edge_else p i s.0 pp ii (λ k. apart k.1) s.2 in
          let last = edge_else j q s.1 jj qq (λ k. apart (sym k.0)) s.3 in
          let no_less : (y : ℤ) → d i j ≡ Some y → c ≤ℤ y = λ y g.
          (let u = most_out (d p j) (s.0 +ℤ y) (closed.triangle p j i s.0 y pp jj ii s.2 g) in
          let v = most_out (d p q) (u.0 +ℤ s.1) (closed.triangle p q j u.0 s.1 pp qq jj u.1 s.3) in
          let w = most_out (e p q) v.0 (left p q v.0 pp qq v.1) in
          let z : w.0 ≡ x = some_same w.0 x (sym w.1 ∙ h) in
          omega (arith, ints, s.4, u.2, v.2, w.2, z)) in
          let middle = edge n (with_bound i j c d) i j c ii jj (bound_there i j c d ∙ lesser_second (d i j) c no_less) in
          rw s.4 (joined n (with_bound i j c d) p q j (s.0 +ℤ c) s.1 (joined n (with_bound i j c d) p j i s.0 c first middle) last)

  pub tight_between : i ≢ j → IsBetween n (with_bound i j c d) e
  tight_between apart = record {
    closed = record { zero = tight_zero; triangle = tight_triangle };
    path = tight_path apart;
    below = tight_below;
  }

-- a negative way back makes a negative cycle
pub tight_cycle : (n i j : ℕ) (c b : ℤ) (d : Weights) → i ≤ n → j ≤ n → i ≢ j → d j i ≡ Some b → (b +ℤ c) <ℤ pos 0 → HasNegativeCycle n (with_bound i j c d)
tight_cycle n i j c b d ii jj apart h less =
    let t = most_out (with_bound i j c d i j) c (rw (bound_there i j c d) (lesser_right (d i j) (Some c) c refl)) in
    let back : with_bound i j c d j i ≡ Some b = bound_else i j c d j i (λ k. apart (sym k.0)) ∙ h in
    (i, t.0 +ℤ b, joined n (with_bound i j c d) i i j t.0 b (edge n (with_bound i j c d) i j t.0 ii jj t.1) (edge n (with_bound i j c d) j i b jj ii back), omega (arith, ints, t.2, less))
