-- Families of sets as lists, where the set of one node changes.
use Rattle.std.proofs.Common.{◌≡◌, ℕ, zero, suc, ◌+◌, ◌^◌, ◌<◌, ◌≤◌, ◌==◌, ◌&&◌, ◌||◌, Bool, true, false, List, [], ◌∷◌, ◌++◌, length, get_or, set, refl, sym, ap, ◌∙◌, subst, inl, inr, ◌⊎◌, eqb-true, eq-eqb, ne_eqb, arith}
use Rattle.std.proofs.lemmas.Bool.{cases_eq, or_cases, or_left, or_right, true≢false}
use Rattle.points_to.specs.Sets.{has, IsSet, IsAscending, AllFrom, AllBelow}
use Rattle.points_to.specs.Families.{family_of}
use Rattle.points_to.specs.computed.Progress.{IsOnce, room}

pub some_of : (xs : List ℕ) → 0 < length xs → (n : ℕ) × (has xs n ≡ true)
some_of [] h = absurd (omega arith)
some_of (x ∷ xs) h = (x, or_left (x == x) (has xs x) (eq-eqb x x refl))

pub none_of : (xs : List ℕ) → 0 ≡ length xs → (n : ℕ) → has xs n ≡ false
none_of [] h n = refl
none_of (x ∷ xs) h n = absurd (omega (arith, h))

pub has_push : (xs : List ℕ) (y n : ℕ) → has (xs ++ y ∷ []) n ≡ true → (has xs n ≡ true) ⊎ (n ≡ y)
has_push [] y n h = elim (or_cases (y == n) false h) [ inl e ↦ inr (sym (eqb-true y n e)) | inr f ↦ absurd (true≢false (sym f)) ]
has_push (x ∷ xs) y n h = elim (or_cases (x == n) (has (xs ++ y ∷ []) n) h) [
  | inl e ↦ inl (or_left (x == n) (has xs n) e)
  | inr f ↦ elim (has_push xs y n f) [ inl g ↦ inl (or_right (x == n) (has xs n) g) | inr e ↦ inr e ]
]

pub push_keeps : (xs : List ℕ) (y n : ℕ) → has xs n ≡ true → has (xs ++ y ∷ []) n ≡ true
push_keeps [] y n h = absurd (true≢false (sym h))
push_keeps (x ∷ xs) y n h = elim (or_cases (x == n) (has xs n) h) [
  | inl e ↦ or_left (x == n) (has (xs ++ y ∷ []) n) e
  | inr f ↦ or_right (x == n) (has (xs ++ y ∷ []) n) (push_keeps xs y n f)
]

pub push_has : (xs : List ℕ) (y : ℕ) → has (xs ++ y ∷ []) y ≡ true
push_has [] y = or_left (y == y) false (eq-eqb y y refl)
push_has (x ∷ xs) y = or_right (x == y) (has (xs ++ y ∷ []) y) (push_has xs y)

push_lacks : (xs : List ℕ) (y n : ℕ) → has xs n ≡ false → (n ≡ y → ⊥) → has (xs ++ y ∷ []) n ≡ false
push_lacks [] y n h ne = ap (λ s. s || false) (ne_eqb y n (λ e. ne (sym e)))
push_lacks (x ∷ xs) y n h ne = elim (cases_eq x n) [
  | inl e ↦ absurd (true≢false (sym (or_left (x == n) (has xs n) (eq-eqb x n e)) ∙ h))
  | inr d ↦ rw (ne_eqb x n d) (push_lacks xs y n (ap (λ s. s || has xs n) (sym (ne_eqb x n d)) ∙ h) ne)
]

pub push_once : (xs : List ℕ) (y : ℕ) → IsOnce xs → has xs y ≡ false → IsOnce (xs ++ y ∷ [])
push_once [] y once h = (refl, tt)
push_once (x ∷ xs) y (lacks, once) h = elim (cases_eq x y) [
  | inl e ↦ absurd (true≢false (sym (or_left (x == y) (has xs y) (eq-eqb x y e)) ∙ h))
  | inr d ↦ (push_lacks xs y x lacks d, push_once xs y once (ap (λ s. s || has xs y) (sym (ne_eqb x y d)) ∙ h))
]

-- ---- the set of one node

pub here_has : (sets : List (List ℕ)) (node : ℕ) (s : List ℕ) (m : ℕ) → node < length sets → family_of (set sets node s) node m ≡ has s m
here_has [] node s m h = absurd (omega arith)
here_has (x ∷ sets) zero s m h = refl
here_has (x ∷ sets) (suc node) s m h = here_has sets node s m (omega arith)

pub other_has : (sets : List (List ℕ)) (node n : ℕ) (s : List ℕ) (m : ℕ) → (n ≡ node → ⊥) → family_of (set sets node s) n m ≡ family_of sets n m
other_has [] node n s m ne = refl
other_has (x ∷ sets) zero zero s m ne = absurd (ne refl)
other_has (x ∷ sets) zero (suc n) s m ne = refl
other_has (x ∷ sets) (suc node) zero s m ne = refl
other_has (x ∷ sets) (suc node) (suc n) s m ne = other_has sets node n s m (λ e. ne (ap suc e))

-- a set that has what was there and what came
pub added_has : (sets : List (List ℕ)) (node : ℕ) (s : List ℕ) (news : ℕ → Bool) → node < length sets → ((m : ℕ) → has s m ≡ (family_of sets node m || news m))
    → (n m : ℕ) → family_of (set sets node s) n m ≡ (family_of sets n m || ((n == node) && news m))
added_has sets node s news h e n m = elim (cases_eq n node) [
  | inl same ↦
      let one : family_of (set sets node s) node m ≡ (family_of sets node m || ((node == node) && news m)) = here_has sets node s m h ∙ e m ∙ ap (λ t. family_of sets node m || (t && news m)) (sym (eq-eqb node node refl)) in
      subst (λ k. family_of (set sets node s) k m ≡ (family_of sets k m || ((k == node) && news m))) (sym same) one
  | inr ne ↦ other_has sets node n s m ne ∙ or_nothing (family_of sets n m) (news m) ∙ ap (λ t. family_of sets n m || (t && news m)) (sym (ne_eqb n node ne))
]
  where
    or_nothing : (x y : Bool) → x ≡ (x || (false && y))
    or_nothing true y = refl
    or_nothing false y = refl

pub within_list : (sets : List (List ℕ)) (node m : ℕ) → family_of sets node m ≡ true → node < length sets
within_list [] node m h = absurd (true≢false (sym h))
within_list (x ∷ sets) zero m h = omega arith
within_list (x ∷ sets) (suc node) m h = omega (arith, within_list sets node m h)

-- ---- how many members may still come

set_length : (low high : ℕ) (xs : List ℕ) → IsAscending xs → AllFrom low xs → AllBelow high xs → low ≤ high → length xs + low ≤ high
set_length low high [] up from below h = omega arith
set_length low high (x ∷ xs) up from below h = omega (arith, from.0, below.0, set_length (x + 1) high xs up.1 up.0 below.1 (omega (arith, below.0)))

all_from_zero : (xs : List ℕ) → AllFrom 0 xs
all_from_zero [] = tt
all_from_zero (x ∷ xs) = (omega arith, all_from_zero xs)

pub set_small : (xs : List ℕ) → IsSet xs → length xs ≤ 2 ^ 32
set_small xs s = let h = set_length 0 (2 ^ 32) xs s.ascending (all_from_zero xs) s.within (omega arith) in omega (arith, h)

pub room_less : (sets : List (List ℕ)) (node : ℕ) (s : List ℕ) → node < length sets → length (get_or sets node []) < length s → length s ≤ 2 ^ 32 → room (set sets node s) < room sets
room_less [] node s h l b = absurd (omega arith)
room_less (x ∷ sets) zero s h l b = omega arith
room_less (x ∷ sets) (suc node) s h l b = omega (arith, room_less sets node s (omega arith) l b)

-- two readings of one place
pub same_at : {A : Type 0} (xs : List A) (i : ℕ) (x y : A) → i < length xs → x ≡ get_or xs i x → y ≡ get_or xs i y → x ≡ y
same_at [] i x y h e f = absurd (omega arith)
same_at (z ∷ xs) zero x y h e f = e ∙ sym f
same_at (z ∷ xs) (suc i) x y h e f = same_at xs i x y (omega arith) e f

pub some_length : (xs : List ℕ) → (length xs == 0) ≡ false → 0 < length xs
some_length [] e = absurd (true≢false e)
some_length (x ∷ xs) e = omega arith
