-- Facts of each element of a list, as a loop finds them one by one.
use Rattle.std.proofs.Common.{◌≡◌, ℕ, zero, suc, ◌+◌, ◌<◌, ◌≤◌, ◌==◌, ◌↔◌, Bool, true, false, IsTrue, Some, List, [], ◌∷◌, length, get_or, slice_get, refl, sym, ap, ◌∙◌, subst, inl, inr, eqb-true, eq-eqb, arith}
use Rattle.std.proofs.lemmas.Bool.{cases_lt, or_cases, or_left, or_right, true≢false}
use Rattle.points_to.specs.Sets.{has}
use Rattle.points_to.specs.computed.RuleParts.{Each}

pub got_at : {A : Type 0} (xs : List A) (k : ℕ) (d : A) → k < length xs → slice_get xs k ≡ Some (get_or xs k d)
got_at [] k d h = absurd (omega arith)
got_at (x ∷ xs) zero d h = refl
got_at (x ∷ xs) (suc k) d h = got_at xs k d (omega arith)

pub got_within : {A : Type 0} (xs : List A) (k : ℕ) (x : A) → slice_get xs k ≡ Some x → k < length xs
got_within [] k x e = absurd (cc)
got_within (y ∷ xs) zero x e = omega arith
got_within (y ∷ xs) (suc k) x e = omega (arith, got_within xs k x e)

same_some : {A : Type 0} (x y : A) → Some x ≡ Some y → x ≡ y
same_some x y e = cc

-- one element more
pub each_more : {A : Type 0} (P : A → Type 0) (xs : List A) (i : ℕ) (d : A) → i < length xs → ((k : ℕ) (x : A) → k < i → slice_get xs k ≡ Some x → P x) → P (get_or xs i d)
    → (k : ℕ) (x : A) → k < i + 1 → slice_get xs k ≡ Some x → P x
each_more P xs i d h before here k x l e = elim (cases_lt k i) [
  | inl less ↦ before k x less e
  | inr more ↦
      let same : k ≡ i = omega arith in
      let at : get_or xs i d ≡ x = same_some (get_or xs i d) x (sym (got_at xs i d h) ∙ ap (slice_get xs) (sym same) ∙ e) in
      subst P at here
]

-- all elements
pub each_all : {A : Type 0} (P : A → Type 0) (xs : List A) (i : ℕ) → length xs ≤ i → ((k : ℕ) (x : A) → k < i → slice_get xs k ≡ Some x → P x) → IsTrue true ↔ Each xs P
each_all P xs i h before = ((λ _ k x e. before k x (omega (arith, got_within xs k x e)) e), λ _. refl)

-- an element of which it does not hold
pub each_not : {A : Type 0} (P : A → Type 0) (xs : List A) (i : ℕ) (d : A) → i < length xs → (P (get_or xs i d) → ⊥) → IsTrue false ↔ Each xs P
each_not P xs i d h fails = ((λ t. absurd (true≢false (sym t))), λ each. absurd (fails (each i (get_or xs i d) (got_at xs i d h))))

-- ---- members of a list of numbers by their places

pub has_place : (xs : List ℕ) (n : ℕ) → has xs n ≡ true → (k : ℕ) × (slice_get xs k ≡ Some n)
has_place [] n h = absurd (true≢false (sym h))
has_place (x ∷ xs) n h = elim (or_cases (x == n) (has xs n) h) [
  | inl e ↦ (0, ap Some (eqb-true x n e))
  | inr t ↦ let r = has_place xs n t in (suc r.0, r.1)
]

pub place_has : (xs : List ℕ) (k n : ℕ) → slice_get xs k ≡ Some n → has xs n ≡ true
place_has [] k n e = absurd (cc)
place_has (x ∷ xs) zero n e = or_left (x == n) (has xs n) (eq-eqb x n (same_some x n e))
place_has (x ∷ xs) (suc k) n e = or_right (x == n) (has xs n) (place_has xs k n e)

-- a fact of each member, by the places or by the members
pub by_members : (P : ℕ → Type 0) (xs : List ℕ) (b : Bool) → IsTrue b ↔ Each xs P → IsTrue b ↔ ((n : ℕ) → has xs n ≡ true → P n)
by_members P xs b (f, g) = ((λ t n h. let r = has_place xs n h in f t r.0 n r.1), λ all. g (λ k n e. all n (place_has xs k n e)))
