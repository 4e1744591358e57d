-- The registers that are sorted, each once, are those that a test finds of all, in order.
use Rattle.std.proofs.Common.{◌≡◌, ℕ, zero, suc, ◌+◌, ◌<◌, ◌≤◌, Bool, true, false, cond, ◌||◌, eqb, ◌==◌, List, [], ◌∷◌, length, get_or, filter, Contains, Option, Some, None, refl, sym, ap, subst, ◌∙◌, arith, IsPermutation, IsSorted, nat_cmp, filter_map, true≢false, eq-eqb, ne_eqb, eqb-true}
use Rattle.std.specs.List.{list_any, range_with_len, cons_option, dedup}
use Rattle.std.specs.Bool.{⊤}
use Rattle.std.specs.List.Sorted.{IsStrictlyIncreasing}
use Rattle.std.proofs.lemmas.List.Folds.{list_any_at}
use Rattle.std.proofs.lemmas.List.Kept.{Contains-dedup_nat, Contains-from_dedup}
use Rattle.std.proofs.lemmas.List.Sorted.{list_any-IsPermutation}
use Rattle.std.proofs.lemmas.Map.Keys.{IsStrictlyIncreasing-dedup}
use Rattle.std.proofs.lemmas.Map.Views.{Contains-from_any}
use Rattle.core_ir.specs.declared.program.Register.{Register}
use Rattle.core_ir.specs.declared.steps.Step.{Step}
use Rattle.var_clusters.specs.Pairs.{target, is_named, kept_if, named_target, assigned}

-- ---- tests

same_test : (b c : Bool) → (b ≡ true → c ≡ true) → (c ≡ true → b ≡ true) → b ≡ c
same_test true c f g = sym (f refl)
same_test false true f g = g refl
same_test false false f g = refl

pub or_right : (b c : Bool) → c ≡ true → (b || c) ≡ true
or_right true c h = refl
or_right false c h = h

pub or_left : (b c : Bool) → b ≡ true → (b || c) ≡ true
or_left true c h = refl
or_left false c h = absurd (true≢false (sym h))

-- ---- ascending numbers, each at least a

abbrev Up : ℕ → List ℕ → Type 0
Up a [] = ⊤
Up a (x ∷ xs) = (a ≤ x) × Up (x + 1) xs

abbrev Starts : ℕ → List ℕ → Type 0
Starts a [] = ⊤
Starts a (x ∷ xs) = a ≤ x

step : (x y : ℕ) (rest : List ℕ) (k : ℕ) → get_or (x ∷ y ∷ rest) (suc k) 0 < get_or (x ∷ y ∷ rest) (suc k + 1) 0 → get_or (y ∷ rest) k 0 < get_or (y ∷ rest) (k + 1) 0
step x y rest k h = let e : suc k + 1 ≡ suc (k + 1) = omega arith in subst (λ z. get_or (y ∷ rest) k 0 < get_or (x ∷ y ∷ rest) z 0) e h

up_of : (a : ℕ) (xs : List ℕ) → Starts a xs → IsStrictlyIncreasing xs → Up a xs
up_of a [] low rises = tt
up_of a (x ∷ []) low rises = (low, tt)
up_of a (x ∷ y ∷ rest) low rises =
    let next : x < y = rises 0 (omega arith) in
    let start : x + 1 ≤ y = omega (arith, next) in
    (low, up_of (x + 1) (y ∷ rest) start (λ k below. step x y rest k (rises (suc k) (omega (arith, below)))))

less_of : (a b : ℕ) → a ≤ b → (a ≡ b → ⊥) → a < b
less_of a b le other = omega (arith, le, other)

-- whether a number stands in a list
abbrev pub has : ℕ → List ℕ → Bool
has r xs = list_any (λ q. r == q) xs

none_below : (r b : ℕ) (xs : List ℕ) → r < b → Up b xs → has r xs ≡ false
none_below r b [] less up = refl
none_below r b (x ∷ xs) less up = rw (ne_eqb r x (λ e. omega (arith, e, less, up.0))) (none_below r (x + 1) xs (omega (arith, less, up.0)) up.1)

-- a number that is the first, or is none of the later ones
not_first : (r x : ℕ) (xs : List ℕ) → x < r → has r (x ∷ xs) ≡ has r xs
not_first r x xs less = rw (ne_eqb r x (λ e. omega (arith, e, less))) refl

filter_at : (p : ℕ → Bool) (a : ℕ) (rest : List ℕ) (b : Bool) → p a ≡ b → filter p (a ∷ rest) ≡ cond b (a ∷ filter p rest) (filter p rest)
filter_at p a rest b e = ap (λ z. cond z (a ∷ filter p rest) (filter p rest)) e

-- the first number is the least, or a greater one
by_first : (p : ℕ → Bool) (n a x : ℕ) (xs : List ℕ) (b : Bool) → eqb a x ≡ b → Up a (x ∷ xs) → ((r : ℕ) → a ≤ r → p r ≡ has r (x ∷ xs)) → (a ≡ x → filter p (range_with_len (a + 1) n) ≡ xs) → (a < x → filter p (range_with_len (a + 1) n) ≡ x ∷ xs) → filter p (range_with_len a (suc n)) ≡ x ∷ xs
by_first p n a x xs true e up finds here later =
    let same : a ≡ x = eqb-true a x e in
    filter_at p a (range_with_len (a + 1) n) true (finds a (omega arith) ∙ or_left (a == x) (has a xs) e)
    ∙ ap (λ z. a ∷ z) (here same)
    ∙ ap (λ z. z ∷ xs) same
by_first p n a x xs false e up finds here later =
    let other : a ≡ x → ⊥ = λ s. true≢false (sym (eq-eqb a x s) ∙ e) in
    let apart : a < x = less_of a x up.0 other in
    filter_at p a (range_with_len (a + 1) n) false (finds a (omega arith) ∙ none_below a x (x ∷ xs) apart (omega arith, up.1)) ∙ later apart

-- a test that finds the numbers of an ascending list, and no other, keeps just these
found_all : (p : ℕ → Bool) (n a : ℕ) (xs : List ℕ) → Up a xs → ((r : ℕ) → p r ≡ true → r < a + n) → ((r : ℕ) → a ≤ r → p r ≡ has r xs) → filter p (range_with_len a n) ≡ xs
found_all p zero a [] up below finds = refl
found_all p zero a (x ∷ xs) up below finds =
    absurd (omega (arith, up.0, below x (finds x up.0 ∙ or_left (x == x) (has x xs) (eq-eqb x x refl))))
found_all p (suc n) a [] up below finds =
    filter_at p a (range_with_len (a + 1) n) false (finds a (omega arith)) ∙ found_all p n (a + 1) [] tt (λ r h. omega (arith, below r h)) (λ r le. finds r (omega (arith, le)))
found_all p (suc n) a (x ∷ xs) up below finds =
    let later : (r : ℕ) → p r ≡ true → r < (a + 1) + n = λ r h. omega (arith, below r h) in
    by_first p n a x xs (eqb a x) refl up finds
    (λ same. found_all p n (a + 1) xs (subst (λ z. Up (z + 1) xs) (sym same) up.1) later (λ r le. finds r (omega (arith, le)) ∙ not_first r x xs (omega (arith, le, same))))
    (λ apart. found_all p n (a + 1) (x ∷ xs) (omega (arith, apart), up.1) later (λ r le. finds r (omega (arith, le))))

-- ---- named registers are registers

named_below : (registers : List Register) (r : ℕ) → is_named registers r ≡ true → r < length registers
named_below [] r h = absurd (true≢false (sym h))
named_below (x ∷ registers) zero h = omega arith
named_below (x ∷ registers) (suc r) h = omega (arith, named_below registers r h)

kept_below : (registers : List Register) (r : ℕ) (o : Option ℕ) (found : List ℕ) → (has r found ≡ true → r < length registers) → has r (cons_option (kept_if (is_named registers) o) found) ≡ true → r < length registers
kept_below registers r None found behind h = behind h
kept_below registers r (Some q) found behind h = by_name (is_named registers q) refl h
  where
    by_name : (b : Bool) → is_named registers q ≡ b → has r (cons_option (cond b (Some q) None) found) ≡ true → r < length registers
    by_name false e h = behind h
    by_name true e h = by_same (eqb r q) refl h
      where
        by_same : (b : Bool) → eqb r q ≡ b → (b || has r found) ≡ true → r < length registers
        by_same true same h = subst (λ z. z < length registers) (sym (eqb-true r q same)) (named_below registers q e)
        by_same false same h = behind h

targets_below : (registers : List Register) (r : ℕ) (steps : List Step) → has r (filter_map (named_target registers) steps) ≡ true → r < length registers
targets_below registers r [] h = absurd (true≢false (sym h))
targets_below registers r (x ∷ steps) h = kept_below registers r (target x) (filter_map (named_target registers) steps) (targets_below registers r steps) h

-- ---- sorted, each once

has_of : (r : ℕ) (xs : List ℕ) → Contains xs r → has r xs ≡ true
has_of r xs h = list_any_at (λ q. r == q) xs h.0 r h.1 (eq-eqb r _ (sym h.2))

contains_of : (r : ℕ) (xs : List ℕ) → has r xs ≡ true → Contains xs r
contains_of r xs h = Contains-from_any {eq = eqb} eqb-true r xs h

dedup_has : (r : ℕ) (xs : List ℕ) → has r (dedup eqb xs) ≡ has r xs
dedup_has r xs = same_test _ _ (λ h. has_of r xs (Contains-from_dedup eqb xs r (contains_of r _ h))) (λ h. has_of r _ (Contains-dedup_nat xs r (contains_of r xs h)))

starts : (xs : List ℕ) → Starts 0 xs
starts [] = tt
starts (x ∷ xs) = omega arith

pub assigned_of : (registers : List Register) (steps : List Step) (found sorted : List ℕ) → found ≡ filter_map (named_target registers) steps → IsPermutation found sorted → IsSorted nat_cmp sorted → dedup eqb sorted ≡ assigned registers steps
assigned_of registers steps found sorted is moved rises =
    let all = filter_map (named_target registers) steps in
    sym (found_all (λ r. has r all) (length registers) 0 (dedup eqb sorted)
    (up_of 0 (dedup eqb sorted) (starts (dedup eqb sorted)) (IsStrictlyIncreasing-dedup sorted rises))
    (λ r h. omega (arith, targets_below registers r steps h))
    (λ r le. sym (dedup_has r sorted ∙ sym (list_any-IsPermutation (λ q. r == q) found sorted moved) ∙ ap (has r) is)))
