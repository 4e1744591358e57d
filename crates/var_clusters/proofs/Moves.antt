-- The registers of one cluster go to another.
use Rattle.std.proofs.Common.{◌≡◌, ◌≢◌, ℕ, zero, suc, ◌+◌, Bool, true, false, cond, ◌||◌, eqb, ◌==◌, List, [], ◌∷◌, length, slice_get, Option, Some, None, option_map, refl, sym, ap, ◌∙◌, arith, eq-eqb, ne_eqb, eqb-true}
use Rattle.var_clusters.specs.Clusters.{places_from, moved}
use Rattle.var_clusters.specs.computed.Partition.{is_first}

-- ---- one register

pub or_false : (b : Bool) → b ≡ (b || false)
or_false true = refl
or_false false = refl

or_true : (b : Bool) → true ≡ (b || true)
or_true true = refl
or_true false = refl

at_low : (low c : ℕ) (b : Bool) → (cond b low c == low) ≡ ((c == low) || b)
at_low low c true = eq-eqb low low refl ∙ or_true (c == low)
at_low low c false = or_false (c == low)

at_high : (low high c : ℕ) (b : Bool) → low ≢ high → eqb c high ≡ b → (cond b low c == high) ≡ false
at_high low high c true differ e = ne_eqb low high differ
at_high low high c false differ e = e

at_other : (low high k c : ℕ) (b : Bool) → k ≢ low → k ≢ high → eqb c high ≡ b → (cond b low c == k) ≡ (c == k)
at_other low high k c true other_low other_high e = ne_eqb low k (λ s. other_low (sym s)) ∙ sym (ne_eqb c k (λ s. other_high (sym s ∙ eqb-true c high e)))
at_other low high k c false other_low other_high e = refl

-- ---- the register r

get_moved : (from to : ℕ) (fs : List ℕ) (r : ℕ) → slice_get (moved from to fs) r ≡ option_map (λ c. cond (c == from) to c) (slice_get fs r)
get_moved from to [] r = refl
get_moved from to (c ∷ fs) zero = refl
get_moved from to (c ∷ fs) (suc r) = get_moved from to fs r

first_low : (low high : ℕ) (o : Option ℕ) → is_first (option_map (λ c. cond (c == high) low c) o) low ≡ (is_first o low || is_first o high)
first_low low high None = refl
first_low low high (Some c) = at_low low c (c == high)

first_high : (low high : ℕ) (o : Option ℕ) → low ≢ high → is_first (option_map (λ c. cond (c == high) low c) o) high ≡ false
first_high low high None differ = refl
first_high low high (Some c) differ = at_high low high c (c == high) differ refl

first_other : (low high k : ℕ) (o : Option ℕ) → k ≢ low → k ≢ high → is_first (option_map (λ c. cond (c == high) low c) o) k ≡ is_first o k
first_other low high k None other_low other_high = refl
first_other low high k (Some c) other_low other_high = at_other low high k c (c == high) other_low other_high refl

pub moved_low : (low high : ℕ) (fs : List ℕ) (r : ℕ) → is_first (slice_get (moved high low fs) r) low ≡ (is_first (slice_get fs r) low || is_first (slice_get fs r) high)
moved_low low high fs r = ap (λ o. is_first o low) (get_moved high low fs r) ∙ first_low low high (slice_get fs r)

pub moved_high : (low high : ℕ) (fs : List ℕ) (r : ℕ) → low ≢ high → is_first (slice_get (moved high low fs) r) high ≡ false
moved_high low high fs r differ = ap (λ o. is_first o high) (get_moved high low fs r) ∙ first_high low high (slice_get fs r) differ

pub moved_other : (low high k : ℕ) (fs : List ℕ) (r : ℕ) → k ≢ low → k ≢ high → is_first (slice_get (moved high low fs) r) k ≡ is_first (slice_get fs r) k
moved_other low high k fs r other_low other_high = ap (λ o. is_first o k) (get_moved high low fs r) ∙ first_other low high k (slice_get fs r) other_low other_high

-- ---- how many there are

more_low : (b c : Bool) (i : ℕ) (all lows highs : List ℕ) → (b ≡ true → c ≡ true → ⊥) → length all ≡ length lows + length highs → length (cond (b || c) (i ∷ all) all) ≡ length (cond b (i ∷ lows) lows) + length (cond c (i ∷ highs) highs)
more_low true true i all lows highs apart e = absurd (apart refl refl)
more_low true false i all lows highs apart e = omega (arith, e)
more_low false true i all lows highs apart e = omega (arith, e)
more_low false false i all lows highs apart e = e

pub size_low : (low high i : ℕ) (fs : List ℕ) → low ≢ high → length (places_from i low (moved high low fs)) ≡ length (places_from i low fs) + length (places_from i high fs)
size_low low high i [] differ = refl
size_low low high i (c ∷ fs) differ =
    let all = places_from (i + 1) low (moved high low fs) in
    ap (λ b. length (cond b (i ∷ all) all)) (at_low low c (c == high))
    ∙ more_low (c == low) (c == high) i all (places_from (i + 1) low fs) (places_from (i + 1) high fs) (λ p q. differ (sym (eqb-true c low p) ∙ eqb-true c high q)) (size_low low high (i + 1) fs differ)

pub size_high : (low high i : ℕ) (fs : List ℕ) → low ≢ high → length (places_from i high (moved high low fs)) ≡ 0
size_high low high i [] differ = refl
size_high low high i (c ∷ fs) differ =
    let all = places_from (i + 1) high (moved high low fs) in
    ap (λ b. length (cond b (i ∷ all) all)) (at_high low high c (c == high) differ refl) ∙ size_high low high (i + 1) fs differ

pub size_other : (low high k i : ℕ) (fs : List ℕ) → k ≢ low → k ≢ high → length (places_from i k (moved high low fs)) ≡ length (places_from i k fs)
size_other low high k i [] other_low other_high = refl
size_other low high k i (c ∷ fs) other_low other_high =
    let all = places_from (i + 1) k (moved high low fs) in
    ap (λ b. length (cond b (i ∷ all) all)) (at_other low high k c (c == high) other_low other_high refl)
    ∙ one_more (c == k) i all (places_from (i + 1) k fs) (size_other low high k (i + 1) fs other_low other_high)
  where
    one_more : (b : Bool) (i : ℕ) (xs ys : List ℕ) → length xs ≡ length ys → length (cond b (i ∷ xs) xs) ≡ length (cond b (i ∷ ys) ys)
    one_more true i xs ys e = ap (λ n. suc n) e
    one_more false i xs ys e = e
