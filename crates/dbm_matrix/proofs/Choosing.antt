-- Each solution of a closed matrix without the bounds of a variable has a value for that variable.
use Rattle.std.proofs.Common.{◌≡◌, ◌≢◌, ℕ, zero, suc, ◌<◌, ◌≤◌, ◌⊎◌, inl, inr, ℤ, pos, ◌+ℤ◌, ◌≤ℤ◌, neg_ℤ, int_lt, Option, Some, None, Bool, true, false, cond, eqb, refl, sym, ◌∙◌, ap, arith}
use Rattle.std.proofs.lemmas.Int.{ints}
use Rattle.std.proofs.lemmas.Bool.Decides.{eqb_tells}
use Rattle.dbm_matrix.specs.Bounds.{Weights}
use Rattle.dbm_matrix.specs.Paths.{IsClosed}
use Rattle.dbm_matrix.specs.Solutions.{Solves, assigned}
use Rattle.dbm_matrix.specs.Changes.{plus}
use Rattle.dbm_matrix.proofs.Options.{none_some, some_same, most_out}
use Rattle.dbm_matrix.proofs.Assigning.{assigned_same, assigned_other}

side : (a b : ℤ) → (a ≤ℤ b) ⊎ (b ≤ℤ a)
side a b = by_test (int_lt a b) refl
  where
    by_test : (t : Bool) → int_lt a b ≡ t → (a ≤ℤ b) ⊎ (b ≤ℤ a)
    by_test true e = inl (omega (arith, ints, e))
    by_test false e = inr (omega (arith, ints, e))

-- the least of the numbers that f has below k
data Least (f : ℕ → Option ℤ) (k : ℕ) : Type 0 where
  missing : ((i : ℕ) (c : ℤ) → i < k → f i ≡ Some c → ⊥) → Least f k
  found : (i : ℕ) (m : ℤ) → i < k → f i ≡ Some m → ((j : ℕ) (c : ℤ) → j < k → f j ≡ Some c → m ≤ℤ c) → Least f k

-- what holds of the numbers below k and of the one at k holds below k + 1
below_next : (f : ℕ → Option ℤ) (k : ℕ) (P : ℤ → Type 0) → ((c : ℤ) → f k ≡ Some c → P c) → ((j : ℕ) (c : ℤ) → j < k → f j ≡ Some c → P c)
    → (j : ℕ) (c : ℤ) → j < suc k → f j ≡ Some c → P c
below_next f k P last before j c l q = elim (eqb_tells j k) [
  | inl p ↦ last c (ap f (sym p.1) ∙ q)
  | inr p ↦ (let unlike : j ≢ k = p.1 in before j c (omega arith) q)
]

least : (f : ℕ → Option ℤ) (k : ℕ) → Least f k
least f zero = missing (λ i c l q. omega (arith, l))
least f (suc k) = next (f k) refl (least f k)
  where
    next : (o : Option ℤ) → f k ≡ o → Least f k → Least f (suc k)
    next None e (missing h) = missing (below_next f k (λ c. ⊥) (λ c q. none_some (f k) c e q) h)
    next None e (found i m l q h) = found i m (omega (arith, l)) q (below_next f k (λ c. m ≤ℤ c) (λ c r. absurd (none_some (f k) c e r)) h)
    next (Some a) e (missing h) = found k a (omega arith) e
        (below_next f k (λ c. a ≤ℤ c) (λ c r. let s : a ≡ c = some_same a c (sym e ∙ r) in omega (arith, ints)) (λ j c l r. absurd (h j c l r)))
    next (Some a) e (found i m l q h) = elim (side a m) [
      | inl s ↦ found k a (omega arith) e
          (below_next f k (λ c. a ≤ℤ c) (λ c r. let t : a ≡ c = some_same a c (sym e ∙ r) in omega (arith, ints)) (λ j c b r. let t = h j c b r in omega (arith, ints, s, t)))
      | inr s ↦ found i m (omega (arith, l)) q
          (below_next f k (λ c. m ≤ℤ c) (λ c r. let t : a ≡ c = some_same a c (sym e ∙ r) in omega (arith, ints, s)) h)
    ]

-- e is d without the bounds of v against the others, and w solves it
module _ (n v : ℕ) (d e : Weights) (inside : v ≤ n) (closed : IsClosed n d)
    (apart : (i j : ℕ) → i ≤ n → j ≤ n → i ≢ v → j ≢ v → e i j ≡ d i j) (w : ℕ → ℤ) (s : Solves n e w) where
  -- what the others ask of v: no more than w i + a, no less than w j - b
  abbrev upper : ℕ → Option ℤ
  upper i = cond (eqb i v) None (plus (d i v) (w i))

  abbrev lower : ℕ → Option ℤ
  lower j = cond (eqb j v) None (plus (d v j) (neg_ℤ (w j)))

  upper_in : (i : ℕ) (a : ℤ) → i ≢ v → d i v ≡ Some a → upper i ≡ Some (a +ℤ w i)
  upper_in i a u q = elim (eqb_tells i v) [ inl p ↦ absurd (u p.1) | inr p ↦ rw (p.0, q) refl ]

  lower_in : (j : ℕ) (b : ℤ) → j ≢ v → d v j ≡ Some b → lower j ≡ Some (b +ℤ neg_ℤ (w j))
  lower_in j b u q = elim (eqb_tells j v) [ inl p ↦ absurd (u p.1) | inr p ↦ rw (p.0, q) refl ]

  plus_out : (o : Option ℤ) (t m : ℤ) → plus o t ≡ Some m → (a : ℤ) × (o ≡ Some a) × (m ≡ a +ℤ t)
  plus_out None t m q = absurd (cc)
  plus_out (Some a) t m q = (a, refl, some_same m (a +ℤ t) (sym q))

  upper_out : (i : ℕ) (m : ℤ) → upper i ≡ Some m → (i ≢ v) × ((a : ℤ) × (d i v ≡ Some a) × (m ≡ a +ℤ w i))
  upper_out i m q = elim (eqb_tells i v) [
    | inl p ↦ absurd (none_some (upper i) m (rw p.0 refl) q)
    | inr p ↦ (p.1, plus_out (d i v) (w i) m (sym (rw p.0 refl) ∙ q))
  ]

  record Suits (z : ℤ) : Type 0 where
    above : (i : ℕ) (a : ℤ) → i ≤ n → i ≢ v → d i v ≡ Some a → z ≤ℤ (w i +ℤ a)
    below : (j : ℕ) (b : ℤ) → j ≤ n → j ≢ v → d v j ≡ Some b → w j ≤ℤ (z +ℤ b)

  -- no less than any, by the way over v from the one that asks for the least
  suits_upper : (i : ℕ) (m : ℤ) → i < suc n → upper i ≡ Some m → ((k : ℕ) (c : ℤ) → k < suc n → upper k ≡ Some c → m ≤ℤ c) → Suits m
  suits_upper i m l q h =
      let out = upper_out i m q in
      record {
        above = λ k a kk u r. let t = h k (a +ℤ w k) (omega (arith, kk)) (upper_in k a u r) in omega (arith, ints, t);
        below = λ j b jj u r.
            let way = most_out (d i j) (out.1.0 +ℤ b) (closed.triangle i j v out.1.0 b (omega (arith, l)) jj inside out.1.1 r) in
            let met = s.each i j way.0 (omega (arith, l)) jj (apart i j (omega (arith, l)) jj out.0 u ∙ way.1) in
            omega (arith, ints, way.2, met, out.1.2);
      }

  suits_lower : ((i : ℕ) (c : ℤ) → i < suc n → upper i ≡ Some c → ⊥) → (m : ℤ) → ((j : ℕ) (c : ℤ) → j < suc n → lower j ≡ Some c → m ≤ℤ c) → Suits (neg_ℤ m)
  suits_lower none m h = record {
    above = λ i a ii u r. absurd (none i (a +ℤ w i) (omega (arith, ii)) (upper_in i a u r));
    below = λ j b jj u r. let t = h j (b +ℤ neg_ℤ (w j)) (omega (arith, jj)) (lower_in j b u r) in omega (arith, ints, t);
  }

  value : Least upper (suc n) → Least lower (suc n) → (z : ℤ) × Suits z
  value (found i m l q h) o = (m, suits_upper i m l q h)
  value (missing none) (found j m l q h) = (neg_ℤ m, suits_lower none m h)
  value (missing none) (missing neither) = (neg_ℤ (pos 0), suits_lower none (pos 0) (λ j c l q. absurd (neither j c l q)))

  meets : (z : ℤ) → Suits z → (i j : ℕ) (c : ℤ) → i ≤ n → j ≤ n → d i j ≡ Some c → assigned v z w j ≤ℤ (assigned v z w i +ℤ c)
  meets z suits i j c ii jj q = elim (eqb_tells i v) [
    | inl p ↦ elim (eqb_tells j v) [
      | inl r ↦ (let same : pos 0 ≡ c = some_same (pos 0) c (sym (closed.zero i ii) ∙ (ap (λ (k : ℕ). d i k) (p.1 ∙ sym r.1) ∙ q)) in
          omega (arith, ints, assigned_same v z w i p.1, assigned_same v z w j r.1, same))
      | inr r ↦ omega (arith, ints, assigned_same v z w i p.1, assigned_other v z w j r.1, suits.below j c jj r.1 (ap (λ (k : ℕ). d k j) (sym p.1) ∙ q))
    ]
    | inr p ↦ elim (eqb_tells j v) [
      | inl r ↦ omega (arith, ints, assigned_other v z w i p.1, assigned_same v z w j r.1, suits.above i c ii p.1 (ap (λ (k : ℕ). d i k) (sym r.1) ∙ q))
      | inr r ↦ omega (arith, ints, assigned_other v z w i p.1, assigned_other v z w j r.1, s.each i j c ii jj (apart i j ii jj p.1 r.1 ∙ q))
    ]
  ]

  -- with a value that suits the others, w solves d
  pub solved : 1 ≤ v → (z : ℤ) × Solves n d (assigned v z w)
  solved one =
      let chosen = value (least upper (suc n)) (least lower (suc n)) in
      (chosen.0, record { zero = assigned_other v chosen.0 w 0 (λ q. omega (arith, q)) ∙ s.zero; each = meets chosen.0 chosen.1 })
