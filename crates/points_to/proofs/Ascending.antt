-- Ascending lists of numbers.
use Rattle.std.proofs.Common.{◌≡◌, ℕ, zero, suc, ◌+◌, ◌<◌, ◌≤◌, ◌==◌, true, false, List, [], ◌∷◌, ◌++◌, length, get_or, take, drop, refl, sym, ap, ◌∙◌, inl, inr, eqb-true, eq-eqb, ne_eqb, arith}
use Rattle.std.proofs.lemmas.Bool.{cases_eq, or_cases, or_parts, or_right, true≢false}
use Rattle.points_to.proofs.Logic.{same_truth}
use Rattle.points_to.specs.Sets.{has, AllFrom, AllBelow, IsAscending}

pub from_weaker : (low lower : ℕ) (xs : List ℕ) → lower ≤ low → AllFrom low xs → AllFrom lower xs
from_weaker low lower [] h all = tt
from_weaker low lower (x ∷ xs) h all = (omega (arith, all.0), from_weaker low lower xs h all.1)

pub from_append : (low : ℕ) (xs ys : List ℕ) → AllFrom low xs → AllFrom low ys → AllFrom low (xs ++ ys)
from_append low [] ys a b = b
from_append low (x ∷ xs) ys a b = (a.0, from_append low xs ys a.1 b)

pub below_append : (high : ℕ) (xs ys : List ℕ) → AllBelow high xs → AllBelow high ys → AllBelow high (xs ++ ys)
below_append high [] ys a b = b
below_append high (x ∷ xs) ys a b = (a.0, below_append high xs ys a.1 b)

pub below_weaker : (high higher : ℕ) (xs : List ℕ) → high ≤ higher → AllBelow high xs → AllBelow higher xs
below_weaker high higher [] h all = tt
below_weaker high higher (x ∷ xs) h all = (omega (arith, all.0), below_weaker high higher xs h all.1)

pub from_at : (low : ℕ) (xs : List ℕ) → ((k : ℕ) → k < length xs → low ≤ get_or xs k 0) → AllFrom low xs
from_at low [] h = tt
from_at low (x ∷ xs) h = (h 0 (omega arith), from_at low xs (λ k l. h (suc k) (omega arith)))

pub at_from : (low : ℕ) (xs : List ℕ) → AllFrom low xs → (k d : ℕ) → k < length xs → low ≤ get_or xs k d
at_from low [] all k d h = absurd (omega arith)
at_from low (x ∷ xs) all zero d h = all.0
at_from low (x ∷ xs) all (suc k) d h = at_from low xs all.1 k d (omega arith)

pub at_below : (high : ℕ) (xs : List ℕ) → AllBelow high xs → (k d : ℕ) → k < length xs → get_or xs k d < high
at_below high [] all k d h = absurd (omega arith)
at_below high (x ∷ xs) all zero d h = all.0
at_below high (x ∷ xs) all (suc k) d h = at_below high xs all.1 k d (omega arith)

pub from_has : (low : ℕ) (xs : List ℕ) (n : ℕ) → AllFrom low xs → has xs n ≡ true → low ≤ n
from_has low [] n all h = absurd (true≢false (sym h))
from_has low (x ∷ xs) n all h =
    elim (or_cases (x == n) (has xs n) h) [ inl e ↦ omega (arith, eqb-true x n e, all.0) | inr t ↦ from_has low xs n all.1 t ]

-- a number before all of a list is not in it
pub from_lacks : (low : ℕ) (xs : List ℕ) (n : ℕ) → AllFrom low xs → n < low → has xs n ≡ false
from_lacks low [] n all h = refl
from_lacks low (x ∷ xs) n all h = rw (ne_eqb x n (λ e. omega (arith, e, all.0)), from_lacks low xs n all.1 h) refl

-- places of an ascending list
pub ordered_at : (xs : List ℕ) → IsAscending xs → (i j d e : ℕ) → i < j → j < length xs → get_or xs i d < get_or xs j e
ordered_at [] up i j d e h l = absurd (omega arith)
ordered_at (x ∷ xs) up i zero d e h l = absurd (omega arith)
ordered_at (x ∷ xs) up zero (suc j) d e h l = omega (arith, at_from (x + 1) xs up.0 j e (omega arith))
ordered_at (x ∷ xs) up (suc i) (suc j) d e h l = ordered_at xs up.1 i j d e (omega arith) (omega arith)

pub ascending_append : (high : ℕ) (xs ys : List ℕ) → AllBelow high xs → AllFrom high ys → IsAscending xs → IsAscending ys → IsAscending (xs ++ ys)
ascending_append high [] ys a b p q = q
ascending_append high (x ∷ xs) ys a b p q =
    (from_append (x + 1) xs ys p.0 (from_weaker high (x + 1) ys (omega (arith, a.0)) b), ascending_append high xs ys a.1 b p.1 q)

pub from_without : (low : ℕ) (os : List ℕ) (x : ℕ) (xs : List ℕ) → AllFrom low (os ++ x ∷ xs) → AllFrom low (os ++ xs)
from_without low [] x xs all = all.1
from_without low (o ∷ os) x xs all = (all.0, from_without low os x xs all.1)

pub below_without : (high : ℕ) (os : List ℕ) (x : ℕ) (xs : List ℕ) → AllBelow high (os ++ x ∷ xs) → AllBelow high (os ++ xs)
below_without high [] x xs all = all.1
below_without high (o ∷ os) x xs all = (all.0, below_without high os x xs all.1)

pub ascending_without : (os : List ℕ) (x : ℕ) (xs : List ℕ) → IsAscending (os ++ x ∷ xs) → IsAscending (os ++ xs)
ascending_without [] x xs up = up.1
ascending_without (o ∷ os) x xs up = (from_without (o + 1) os x xs up.0, ascending_without os x xs up.1)

from_with : (low : ℕ) (os : List ℕ) (x y : ℕ) (xs ys : List ℕ) → AllFrom low (os ++ x ∷ xs) → AllFrom low (os ++ y ∷ ys) → AllFrom low (os ++ x ∷ y ∷ ys)
from_with low [] x y xs ys a b = (a.0, b)
from_with low (o ∷ os) x y xs ys a b = (a.0, from_with low os x y xs ys a.1 b.1)

pub below_with : (high : ℕ) (os : List ℕ) (x y : ℕ) (xs ys : List ℕ) → AllBelow high (os ++ x ∷ xs) → AllBelow high (os ++ y ∷ ys) → AllBelow high (os ++ x ∷ y ∷ ys)
below_with high [] x y xs ys a b = (a.0, b)
below_with high (o ∷ os) x y xs ys a b = (a.0, below_with high os x y xs ys a.1 b.1)

-- what may follow, followed by what comes later
pub ascending_with : (os : List ℕ) (x y : ℕ) (xs ys : List ℕ) → x < y → IsAscending (os ++ x ∷ xs) → IsAscending (os ++ y ∷ ys) → IsAscending (os ++ x ∷ y ∷ ys)
ascending_with [] x y xs ys h a b = ((omega arith, from_weaker (y + 1) (x + 1) ys (omega arith) b.0), b)
ascending_with (o ∷ os) x y xs ys h a b = (from_with (o + 1) os x y xs ys a.0 b.0, ascending_with os x y xs ys h a.1 b.1)

from_insert : (low : ℕ) (xs : List ℕ) (p x : ℕ) → low ≤ x → AllFrom low xs → AllFrom low (take p xs ++ x ∷ drop p xs)
from_insert low xs zero x h all = (h, all)
from_insert low [] (suc p) x h all = (h, tt)
from_insert low (y ∷ ys) (suc p) x h all = (all.0, from_insert low ys p x h all.1)

pub below_insert : (high : ℕ) (xs : List ℕ) (p x : ℕ) → x < high → AllBelow high xs → AllBelow high (take p xs ++ x ∷ drop p xs)
below_insert high xs zero x h all = (h, all)
below_insert high [] (suc p) x h all = (h, tt)
below_insert high (y ∷ ys) (suc p) x h all = (all.0, below_insert high ys p x h all.1)

pub ascending_insert : (xs : List ℕ) (p x : ℕ) → IsAscending xs
    → ((k : ℕ) → k < p → k < length xs → get_or xs k 0 < x) → ((k : ℕ) → p ≤ k → k < length xs → x < get_or xs k 0)
    → IsAscending (take p xs ++ x ∷ drop p xs)
ascending_insert xs zero x up before after = (from_at (x + 1) xs (λ k l. omega (arith, after k (omega arith) l)), up)
ascending_insert [] (suc p) x up before after = (tt, tt)
ascending_insert (y ∷ ys) (suc p) x up before after = (
  from_insert (y + 1) ys p x (omega (arith, before 0 (omega arith) (omega arith))) up.0,
  ascending_insert ys p x up.1 (λ k h l. before (suc k) (omega arith) (omega arith)) (λ k h l. after (suc k) (omega arith) (omega arith)),
)

-- an ascending list of numbers below `high` is at most that long
pub ascending_length : (xs : List ℕ) (low high : ℕ) → IsAscending xs → AllFrom low xs → AllBelow high xs → low ≤ high → length xs + low ≤ high
ascending_length [] low high up a b h = omega arith
ascending_length (x ∷ xs) low high up a b h = omega (arith, ascending_length xs (x + 1) high up.1 up.0 b.1 (omega (arith, b.0)), a.0)

within : List ℕ → List ℕ → Type 0
within xs ys = (n : ℕ) → has xs n ≡ true → has ys n ≡ true

head_in : (x : ℕ) (xs : List ℕ) → has (x ∷ xs) x ≡ true
head_in x xs = rw (eq-eqb x x refl) refl

-- of two ascending lists of which one is within the other, without its first number
rest_within : (x : ℕ) (xs ys : List ℕ) → AllFrom (x + 1) xs → ((n : ℕ) → has (x ∷ xs) n ≡ true → has (x ∷ ys) n ≡ true) → (n : ℕ) → has xs n ≡ true → has ys n ≡ true
rest_within x xs ys a f n h =
    elim (or_cases (x == n) (has ys n) (f n (or_right (x == n) (has xs n) h))) [ inl e ↦ absurd (omega (arith, eqb-true x n e, from_has (x + 1) xs n a h)) | inr t ↦ t ]

skip_within : (x y : ℕ) (xs ys : List ℕ) → y < x → AllFrom (x + 1) xs → ((n : ℕ) → has (x ∷ xs) n ≡ true → has (y ∷ ys) n ≡ true) → (n : ℕ) → has (x ∷ xs) n ≡ true → has ys n ≡ true
skip_within x y xs ys l a f n h =
    elim (or_cases (y == n) (has ys n) (f n h)) [ inl e ↦ absurd (omega (arith, eqb-true y n e, l, from_has x (x ∷ xs) n (omega arith, from_weaker (x + 1) x xs (omega arith) a) h)) | inr t ↦ t ]

first_of_within : (x y : ℕ) (xs ys : List ℕ) → AllFrom (y + 1) ys → has (y ∷ ys) x ≡ true → (x ≡ y → ⊥) → y < x
first_of_within x y xs ys a h ne =
    elim (or_cases (y == x) (has ys x) h) [ inl e ↦ absurd (ne (sym (eqb-true y x e))) | inr t ↦ omega (arith, from_has (y + 1) ys x a t) ]

subst_head : (x y : ℕ) (xs ys : List ℕ) → x ≡ y → ((n : ℕ) → has (x ∷ xs) n ≡ true → has (y ∷ ys) n ≡ true) → (n : ℕ) → has (x ∷ xs) n ≡ true → has (x ∷ ys) n ≡ true
subst_head x y xs ys e f n h = rw e (f n h)

pub shorter : (xs ys : List ℕ) → IsAscending xs → IsAscending ys → ((n : ℕ) → has xs n ≡ true → has ys n ≡ true) → length xs ≤ length ys
shorter [] ys p q f = omega arith
shorter (x ∷ xs) [] p q f = absurd (true≢false (sym (f x (head_in x xs))))
shorter (x ∷ xs) (y ∷ ys) p q f = elim (cases_eq x y) [
  | inl e ↦ omega (arith, shorter xs ys p.1 q.1 (rest_within x xs ys p.0 (subst_head x y xs ys e f)))
  | inr ne ↦ omega (arith, shorter (x ∷ xs) ys p q.1 (skip_within x y xs ys (first_of_within x y xs ys q.0 (f x (head_in x xs)) ne) p.0 f))
]

-- a list with one number more is longer
pub longer : (xs ys : List ℕ) (m : ℕ) → IsAscending xs → IsAscending ys → ((n : ℕ) → has xs n ≡ true → has ys n ≡ true) → has xs m ≡ false → has ys m ≡ true → length xs < length ys
longer xs [] m p q f out holds = absurd (true≢false (sym holds))
longer [] (y ∷ ys) m p q f out holds = omega arith
longer (x ∷ xs) (y ∷ ys) m p q f out holds = elim (cases_eq x y) [
  | inl e ↦
      let parts = or_parts (x == m) (has xs m) out in
      let there : has ys m ≡ true = elim (or_cases (y == m) (has ys m) holds) [ inl h ↦ absurd (true≢false (sym h ∙ ap (λ z. z == m) (sym e) ∙ parts.0)) | inr h ↦ h ] in
      omega (arith, longer xs ys m p.1 q.1 (rest_within x xs ys p.0 (subst_head x y xs ys e f)) parts.1 there)
  | inr ne ↦ omega (arith, shorter (x ∷ xs) ys p q.1 (skip_within x y xs ys (first_of_within x y xs ys q.0 (f x (head_in x xs)) ne) p.0 f))
]

ne_heads : (x y : ℕ) (xs ys : List ℕ) → IsAscending (x ∷ xs) → IsAscending (y ∷ ys) → ((n : ℕ) → has (x ∷ xs) n ≡ has (y ∷ ys) n) → (x ≡ y → ⊥) → ⊥
ne_heads x y xs ys p q f ne =
    let low = first_of_within x y xs ys q.0 (sym (f x) ∙ head_in x xs) ne in
    let high = first_of_within y x ys xs p.0 (f y ∙ head_in y ys) (λ e. ne (sym e)) in
    omega (arith, low, high)

-- ascending lists of the same numbers are one list
pub same_ascending : (xs ys : List ℕ) → IsAscending xs → IsAscending ys → ((n : ℕ) → has xs n ≡ has ys n) → xs ≡ ys
same_ascending [] [] p q f = refl
same_ascending [] (y ∷ ys) p q f = absurd (true≢false (sym (f y ∙ head_in y ys)))
same_ascending (x ∷ xs) [] p q f = absurd (true≢false (sym (head_in x xs) ∙ f x))
same_ascending (x ∷ xs) (y ∷ ys) p q f = elim (cases_eq x y) [
  | inl e ↦
      let forth : (n : ℕ) → has (x ∷ xs) n ≡ true → has (y ∷ ys) n ≡ true = λ n h. sym (f n) ∙ h in
      let back : (n : ℕ) → has (y ∷ ys) n ≡ true → has (x ∷ xs) n ≡ true = λ n h. f n ∙ h in
      let same : xs ≡ ys = same_ascending xs ys p.1 q.1 (λ n. same_truth (has xs n) (has ys n)
      (rest_within x xs ys p.0 (subst_head x y xs ys e forth) n)
      (rest_within y ys xs q.0 (subst_head y x ys xs (sym e) back) n)) in
      cc
  | inr ne ↦ absurd (ne_heads x y xs ys p q f ne)
]
