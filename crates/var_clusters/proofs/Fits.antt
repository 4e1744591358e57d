-- The clusters fit: in each from 1 to 16 registers, ascending; clusters in the order of their first registers; each register in one.
use Rattle.std.proofs.Common.{◌≡◌, ◌≢◌, ℕ, zero, suc, ◌+◌, ◌<◌, ◌≤◌, Bool, true, false, cond, ◌||◌, nat_lt, min, max, eqb, ◌==◌, ltb, ltb-true, ltb-false, lt-ltb, List, [], ◌∷◌, ◌++◌, length, map, get_or, filter, flat_map, fold, count_by, Option, Some, None, slice_get, Result, Ok, Err, IfOk, Vec, Global, refl, sym, ap, subst, ◌∙◌, arith, true≢false, eq-eqb, ne_eqb, eqb-true}
use Rattle.std.specs.List.{AllByRecursion, range_with_len}
use Rattle.std.proofs.lemmas.Bool.{or_parts}
use Rattle.std.proofs.lemmas.List.{length-map, get_or-map}
use Rattle.std.proofs.lemmas.List.FromFn.{get_or-range_with_len, length-range_with_len}
use Rattle.std.proofs.lemmas.List.Recursion.{is_count_by}
use Rattle.std.proofs.lemmas.Option.{slice_get_within, get_or_from_slice_get}
use Rattle.core_ir.specs.BoundsFit.{ClusterFits, ClustersFit, first_of}
use Rattle.core_ir.specs.Lists.{IsAscending}
use Rattle.core_ir.specs.Plain.{lists_of}
use Rattle.core_ir.specs.declared.program.Function.{Function}
use Rattle.var_clusters.specs.Clusters.{places_from, members, size, has_members, join, united_at, moved, firsts_of, clusters_of}
use Rattle.var_clusters.specs.Pairs.{Pair, pairs}
use Rattle.var_clusters.proofs.Moves.{size_low, size_high, size_other}
use Rattle.var_clusters.proofs.Partitions.{count_one}

-- ---- while pairs join: each cluster has its least register first, and no more than 16

pub record AreFirsts (n : ℕ) (firsts : List ℕ) : Type 0 where
  pub long : length firsts ≡ n
  pub least : (r : ℕ) → r < n → get_or firsts r 0 ≤ r
  pub own : (r : ℕ) → r < n → get_or firsts (get_or firsts r 0) 0 ≡ get_or firsts r 0
  pub few : (k : ℕ) → k < n → size k firsts ≤ 16

alone_firsts : (n : ℕ) → AreFirsts n (range_with_len 0 n)
alone_firsts n =
    let at : (r : ℕ) → r < n → get_or (range_with_len 0 n) r 0 ≡ r = λ r below. get_or-range_with_len 0 n r 0 below ∙ omega arith in
    record {
      long = length-range_with_len 0 n;
      least = λ r below. omega (arith, at r below);
      own = λ r below. ap (λ z. get_or (range_with_len 0 n) z 0) (at r below);
      few = λ k below. omega (arith, count_one 0 0 k n (omega arith) (omega (arith, below)));
    }

same_both : (b : Bool) (c : ℕ) → cond b c c ≡ c
same_both true c = refl
same_both false c = refl

module _ (n : ℕ) (firsts : List ℕ) (p : AreFirsts n firsts) (low high : ℕ) (less : low < high) (high_in : high < n) (low_own : get_or firsts low 0 ≡ low) (together : size low firsts + size high firsts ≤ 16) where
  at : (r : ℕ) → r < n → get_or (moved high low firsts) r 0 ≡ cond (get_or firsts r 0 == high) low (get_or firsts r 0)
  at r below = get_or-map (λ c. cond (c == high) low c) firsts r 0 0 (omega (arith, below, p.long))

  least_if : (r c : ℕ) (b : Bool) → eqb c high ≡ b → c ≤ r → cond b low c ≤ r
  least_if r c true e le = omega (arith, le, less, eqb-true c high e)
  least_if r c false e le = le

  own_if : (c : ℕ) (b : Bool) → eqb c high ≡ b → c < n → get_or firsts c 0 ≡ c → get_or (moved high low firsts) (cond b low c) 0 ≡ cond b low c
  own_if c true e below own = at low (omega (arith, less, high_in)) ∙ ap (λ z. cond (z == high) low z) low_own ∙ same_both (low == high) low
  own_if c false e below own = at c below ∙ ap (λ z. cond (z == high) low z) own ∙ ap (λ b. cond b low c) e

  few_if : (k : ℕ) (b c : Bool) → eqb k low ≡ b → eqb k high ≡ c → k < n → size k (moved high low firsts) ≤ 16
  few_if k true c e f below = subst (λ z. size z (moved high low firsts) ≤ 16) (sym (eqb-true k low e)) (omega (arith, together, size_low low high 0 firsts (λ s. omega (arith, s, less))))
  few_if k false true e f below = subst (λ z. size z (moved high low firsts) ≤ 16) (sym (eqb-true k high f)) (omega (arith, size_high low high 0 firsts (λ s. omega (arith, s, less))))
  few_if k false false e f below =
      omega (arith, p.few k below, size_other low high k 0 firsts (λ s. true≢false (sym (eq-eqb k low s) ∙ e)) (λ s. true≢false (sym (eq-eqb k high s) ∙ f)))

  moved_firsts : AreFirsts n (moved high low firsts)
  moved_firsts = record {
    long = length-map firsts (λ c. cond (c == high) low c) ∙ p.long;
    least = λ r below. subst (λ z. z ≤ r) (sym (at r below)) (least_if r (get_or firsts r 0) (get_or firsts r 0 == high) refl (p.least r below));
    own = λ r below. subst (λ z. get_or (moved high low firsts) z 0 ≡ z) (sym (at r below)) (own_if (get_or firsts r 0) (get_or firsts r 0 == high) refl (omega (arith, p.least r below, below)) (p.own r below));
    few = λ k below. few_if k (k == low) (k == high) refl refl below;
  }

-- the lesser of two clusters, whichever it is
ordered_firsts : (n : ℕ) (firsts : List ℕ) → AreFirsts n firsts → (k l : ℕ) → k < n → l < n → get_or firsts k 0 ≡ k → get_or firsts l 0 ≡ l → k ≢ l → size k firsts + size l firsts ≤ 16 → (b : Bool) → ltb k l ≡ b → AreFirsts n (moved (max k l) (min k l) firsts)
ordered_firsts n firsts p k l k_in l_in k_own l_own differ together true e =
    let less : k < l = ltb-true k l e in
    let high : max k l ≡ l = omega (arith, less) in
    let low : min k l ≡ k = omega (arith, less) in
    subst (λ z. AreFirsts n (moved z (min k l) firsts)) (sym high) (subst (λ z. AreFirsts n (moved l z firsts)) (sym low) (moved_firsts n firsts p k l less l_in k_own together))
ordered_firsts n firsts p k l k_in l_in k_own l_own differ together false e =
    let less : l < k = omega (arith, ltb-false k l e, differ) in
    let high : max k l ≡ k = omega (arith, less) in
    let low : min k l ≡ l = omega (arith, less) in
    subst (λ z. AreFirsts n (moved z (min k l) firsts)) (sym high) (subst (λ z. AreFirsts n (moved k z firsts)) (sym low) (moved_firsts n firsts p l k less k_in l_own (omega (arith, together))))

united_firsts : (n : ℕ) (firsts : List ℕ) → AreFirsts n firsts → (k l : ℕ) → k < n → l < n → get_or firsts k 0 ≡ k → get_or firsts l 0 ≡ l → (t : Bool) → ((k == l) || nat_lt 16 (size k firsts + size l firsts)) ≡ t → AreFirsts n (cond t firsts (moved (max k l) (min k l) firsts))
united_firsts n firsts p k l k_in l_in k_own l_own true e = p
united_firsts n firsts p k l k_in l_in k_own l_own false e =
    let parts : (eqb k l ≡ false) × (nat_lt 16 (size k firsts + size l firsts) ≡ false) = or_parts (k == l) (nat_lt 16 (size k firsts + size l firsts)) e in
    ordered_firsts n firsts p k l k_in l_in k_own l_own (λ s. true≢false (sym (eq-eqb k l s) ∙ parts.0)) (ltb-false 16 (size k firsts + size l firsts) parts.1) (ltb k l) refl

united_at_firsts : (n : ℕ) (firsts : List ℕ) → AreFirsts n firsts → (a b : ℕ) (o q : Option ℕ) → slice_get firsts a ≡ o → slice_get firsts b ≡ q → AreFirsts n (united_at firsts o q)
united_at_firsts n firsts p a b None q e f = p
united_at_firsts n firsts p a b (Some k) None e f = p
united_at_firsts n firsts p a b (Some k) (Some l) e f =
    let a_in : a < n = omega (arith, slice_get_within firsts a k e, p.long) in
    let b_in : b < n = omega (arith, slice_get_within firsts b l f, p.long) in
    let at_a : get_or firsts a 0 ≡ k = get_or_from_slice_get firsts a k 0 e in
    let at_b : get_or firsts b 0 ≡ l = get_or_from_slice_get firsts b l 0 f in
    united_firsts n firsts p k l (omega (arith, a_in, p.least a a_in, at_a)) (omega (arith, b_in, p.least b b_in, at_b))
    (subst (λ z. get_or firsts z 0 ≡ z) at_a (p.own a a_in))
    (subst (λ z. get_or firsts z 0 ≡ z) at_b (p.own b b_in))
    ((k == l) || nat_lt 16 (size k firsts + size l firsts)) refl

joined_firsts : (n : ℕ) (pairs : List Pair) (firsts : List ℕ) → AreFirsts n firsts → AreFirsts n (fold join firsts pairs)
joined_firsts n [] firsts p = p
joined_firsts n (x ∷ pairs) firsts p = joined_firsts n pairs (join firsts x) (united_at_firsts n firsts p x.0 x.1 (slice_get firsts x.0) (slice_get firsts x.1) refl refl)

-- ---- the places of a cluster

module _ (k : ℕ) where
  above_if : (b : Bool) (i x : ℕ) (rest : List ℕ) → x < i → AllByRecursion (λ y. x < y) rest → AllByRecursion (λ y. x < y) (cond b (i ∷ rest) rest)
  above_if true i x rest less all = (less, all)
  above_if false i x rest less all = all

  places_above : (i x : ℕ) (firsts : List ℕ) → x < i → AllByRecursion (λ y. x < y) (places_from i k firsts)
  places_above i x [] less = tt
  places_above i x (c ∷ firsts) less = above_if (c == k) i x (places_from (i + 1) k firsts) less (places_above (i + 1) x firsts (omega (arith, less)))

  ascending_if : (b : Bool) (i : ℕ) (rest : List ℕ) → AllByRecursion (λ y. i < y) rest → IsAscending rest → IsAscending (cond b (i ∷ rest) rest)
  ascending_if true i rest all up = (all, up)
  ascending_if false i rest all up = up

  places_ascending : (i : ℕ) (firsts : List ℕ) → IsAscending (places_from i k firsts)
  places_ascending i [] = tt
  places_ascending i (c ∷ firsts) = ascending_if (c == k) i (places_from (i + 1) k firsts) (places_above (i + 1) i firsts (omega arith)) (places_ascending (i + 1) firsts)

  below_if : (n : ℕ) (b : Bool) (i : ℕ) (rest : List ℕ) → i < n → AllByRecursion (λ r. r < n) rest → AllByRecursion (λ r. r < n) (cond b (i ∷ rest) rest)
  below_if n true i rest less all = (less, all)
  below_if n false i rest less all = all

  places_below : (n i : ℕ) (firsts : List ℕ) → i + length firsts ≤ n → AllByRecursion (λ r. r < n) (places_from i k firsts)
  places_below n i [] le = tt
  places_below n i (c ∷ firsts) le = below_if n (c == k) i (places_from (i + 1) k firsts) (omega (arith, le)) (places_below n (i + 1) firsts (omega (arith, le)))

  -- the first place, where there is one, is one of the cluster, and none is before it
  record IsFirstPlace (i : ℕ) (firsts : List ℕ) (first : ℕ) : Type 0 where
    j : ℕ
    inside : j < length firsts
    is : first ≡ i + j
    at : get_or firsts j 0 ≡ k
    least : (m : ℕ) → m < j → get_or firsts m 0 ≢ k

  first_place : (i : ℕ) (firsts : List ℕ) → 0 < length (places_from i k firsts) → IsFirstPlace i firsts (first_of (places_from i k firsts))
  first_place i [] h = absurd (omega (arith, h))
  first_place i (c ∷ firsts) h = by_place (c == k) refl h (λ some. first_place (i + 1) firsts some)
    where
      none_before : (c : ℕ) (rest : List ℕ) (j : ℕ) → c ≢ k → ((m : ℕ) → m < j → get_or rest m 0 ≢ k) → (m : ℕ) → m < suc j → get_or (c ∷ rest) m 0 ≢ k
      none_before c rest j other before zero less = other
      none_before c rest j other before (suc m) less = before m (omega (arith, less))

      by_place : (b : Bool) → eqb c k ≡ b → 0 < length (cond b (i ∷ places_from (i + 1) k firsts) (places_from (i + 1) k firsts)) → (0 < length (places_from (i + 1) k firsts) → IsFirstPlace (i + 1) firsts (first_of (places_from (i + 1) k firsts))) → IsFirstPlace i (c ∷ firsts) (first_of (cond b (i ∷ places_from (i + 1) k firsts) (places_from (i + 1) k firsts)))
      by_place true e some behind = record { j = 0; inside = omega arith; is = omega arith; at = eqb-true c k e; least = λ m less. absurd (omega (arith, less)) }
      by_place false e some behind =
          let later : IsFirstPlace (i + 1) firsts (first_of (places_from (i + 1) k firsts)) = behind some in
          record {
            j = suc later.j;
            inside = omega (arith, later.inside);
            is = omega (arith, later.is);
            at = later.at;
            least = none_before c firsts later.j (λ s. true≢false (sym (eq-eqb c k s) ∙ e)) later.least;
          }

-- the first register of a cluster is that by which it is known
first_is : (n : ℕ) (firsts : List ℕ) → AreFirsts n firsts → (k : ℕ) → k < n → has_members (members firsts k) ≡ true → first_of (members firsts k) ≡ k
first_is n firsts p k k_in some =
    let place : IsFirstPlace k 0 firsts (first_of (members firsts k)) = first_place k 0 firsts (ltb-true 0 (length (members firsts k)) some) in
    let j_in : place.j < n = omega (arith, place.inside, p.long) in
    let le : k ≤ place.j = omega (arith, place.at, p.least place.j j_in) in
    let own : get_or firsts k 0 ≡ k = subst (λ z. get_or firsts z 0 ≡ z) place.at (p.own place.j j_in) in
    place.is ∙ none_less place.j le own place.least
  where
    none_less : (j : ℕ) → k ≤ j → get_or firsts k 0 ≡ k → ((m : ℕ) → m < j → get_or firsts m 0 ≢ k) → 0 + j ≡ k
    none_less j le own before = by_test (ltb k j) refl
      where
        by_test : (b : Bool) → ltb k j ≡ b → 0 + j ≡ k
        by_test true e = absurd (before k (ltb-true k j e) own)
        by_test false e = omega (arith, le, ltb-false k j e)

-- ---- the clusters that are known by the registers from a on

module _ (n : ℕ) (firsts : List ℕ) (p : AreFirsts n firsts) where
  each_fits : (a m : ℕ) → a + m ≤ n → AllByRecursion (ClusterFits n) (filter has_members (map (members firsts) (range_with_len a m)))
  each_fits a zero le = tt
  each_fits a (suc m) le = by_test (has_members (members firsts a)) refl (each_fits (a + 1) m (omega (arith, le)))
    where
      rest : List (List ℕ)
      rest = filter has_members (map (members firsts) (range_with_len (a + 1) m))

      by_test : (b : Bool) → has_members (members firsts a) ≡ b → AllByRecursion (ClusterFits n) rest → AllByRecursion (ClusterFits n) (cond b (members firsts a ∷ rest) rest)
      by_test true e later = (
        record {
          some = ltb-true 0 (length (members firsts a)) e;
          size = p.few a (omega (arith, le));
          ascending = places_ascending a 0 firsts;
          registers_below = places_below a n 0 firsts (omega (arith, p.long));
        },
        later,
      )
      by_test false e later = later

  firsts_above : (x a m : ℕ) → x < a → a + m ≤ n → AllByRecursion (λ y. x < y) (map first_of (filter has_members (map (members firsts) (range_with_len a m))))
  firsts_above x a zero less le = tt
  firsts_above x a (suc m) less le = by_test (has_members (members firsts a)) refl (firsts_above x (a + 1) m (omega (arith, less)) (omega (arith, le)))
    where
      rest : List (List ℕ)
      rest = filter has_members (map (members firsts) (range_with_len (a + 1) m))

      by_test : (b : Bool) → has_members (members firsts a) ≡ b → AllByRecursion (λ y. x < y) (map first_of rest) → AllByRecursion (λ y. x < y) (map first_of (cond b (members firsts a ∷ rest) rest))
      by_test true e later = (subst (λ z. x < z) (sym (first_is n firsts p a (omega (arith, le)) e)) less, later)
      by_test false e later = later

  firsts_ascending : (a m : ℕ) → a + m ≤ n → IsAscending (map first_of (filter has_members (map (members firsts) (range_with_len a m))))
  firsts_ascending a zero le = tt
  firsts_ascending a (suc m) le = by_test (has_members (members firsts a)) refl (firsts_ascending (a + 1) m (omega (arith, le)))
    where
      rest : List (List ℕ)
      rest = filter has_members (map (members firsts) (range_with_len (a + 1) m))

      by_test : (b : Bool) → has_members (members firsts a) ≡ b → IsAscending (map first_of rest) → IsAscending (map first_of (cond b (members firsts a ∷ rest) rest))
      by_test true e later = (subst (λ z. AllByRecursion (λ y. z < y) (map first_of rest)) (sym (first_is n firsts p a (omega (arith, le)) e)) (firsts_above a (a + 1) m (omega arith) (omega (arith, le))), later)
      by_test false e later = later

-- ---- each register stands in one cluster

-- how often a register stands in a list
abbrev times : ℕ → List ℕ → ℕ
times r [] = 0
times r (q ∷ qs) = cond (eqb q r) (1 + times r qs) (times r qs)

times_if : (b : Bool) (m k n : ℕ) → n ≡ m + k → cond b (1 + n) n ≡ cond b (1 + m) m + k
times_if true m k n e = omega (arith, e)
times_if false m k n e = e

times_append : (r : ℕ) (xs ys : List ℕ) → times r (xs ++ ys) ≡ times r xs + times r ys
times_append r [] ys = omega arith
times_append r (x ∷ xs) ys = times_if (eqb x r) (times r xs) (times r ys) (times r (xs ++ ys)) (times_append r xs ys)

times_past : (r i k : ℕ) (firsts : List ℕ) → r < i → times r (places_from i k firsts) ≡ 0
times_past r i k [] less = refl
times_past r i k (c ∷ firsts) less = by_place (c == k) (times_past r (i + 1) k firsts (omega (arith, less)))
  where
    by_place : (b : Bool) → times r (places_from (i + 1) k firsts) ≡ 0 → times r (cond b (i ∷ places_from (i + 1) k firsts) (places_from (i + 1) k firsts)) ≡ 0
    by_place true e = rw (ne_eqb i r (λ s. omega (arith, s, less))) e
    by_place false e = e

-- of the places from i on, that of a register stands once in the list of its cluster, and in no other
times_at : (r i k j : ℕ) (firsts : List ℕ) → r ≡ i + j → j < length firsts → times r (places_from i k firsts) ≡ cond (get_or firsts j 0 == k) 1 0
times_at r i k j [] is inside = absurd (omega (arith, inside))
times_at r i k zero (c ∷ firsts) is inside = by_place (c == k) (times_past r (i + 1) k firsts (omega (arith, is)))
  where
    by_place : (b : Bool) → times r (places_from (i + 1) k firsts) ≡ 0 → times r (cond b (i ∷ places_from (i + 1) k firsts) (places_from (i + 1) k firsts)) ≡ cond b 1 0
    by_place true e = rw (eq-eqb i r (omega (arith, is))) (ap (λ z. 1 + z) e)
    by_place false e = e
times_at r i k (suc j) (c ∷ firsts) is inside = by_place (c == k) (times_at r (i + 1) k j firsts (omega (arith, is)) (omega (arith, inside)))
  where
    by_place : (b : Bool) → times r (places_from (i + 1) k firsts) ≡ cond (get_or firsts j 0 == k) 1 0 → times r (cond b (i ∷ places_from (i + 1) k firsts) (places_from (i + 1) k firsts)) ≡ cond (get_or firsts j 0 == k) 1 0
    by_place true e = rw (ne_eqb i r (λ s. omega (arith, s, is))) e
    by_place false e = e

-- a list of none counts for nothing
times_kept : (r : ℕ) (xs : List ℕ) (rest : List (List ℕ)) → times r (flat_map (λ c. c) (cond (has_members xs) (xs ∷ rest) rest)) ≡ times r xs + times r (flat_map (λ c. c) rest)
times_kept r [] rest = omega arith
times_kept r (x ∷ xs) rest =
    ap (λ b. times r (flat_map (λ c. c) (cond b ((x ∷ xs) ∷ rest) rest))) (lt-ltb 0 (length (x ∷ xs)) (omega arith)) ∙ times_append r (x ∷ xs) (flat_map (λ c. c) rest)

module _ (n : ℕ) (firsts : List ℕ) (p : AreFirsts n firsts) (r : ℕ) (r_in : r < n) where
  abbrev all_times : ℕ → ℕ → ℕ
  all_times a m = times r (flat_map (λ c. c) (filter has_members (map (members firsts) (range_with_len a m))))

  next_times : (a m : ℕ) (b : Bool) → eqb (get_or firsts r 0) a ≡ b → all_times a (suc m) ≡ cond b 1 0 + all_times (a + 1) m
  next_times a m b e =
      times_kept r (members firsts a) (filter has_members (map (members firsts) (range_with_len (a + 1) m)))
      ∙ ap (λ z. z + all_times (a + 1) m) (times_at r 0 a r firsts (omega arith) (omega (arith, r_in, p.long)) ∙ ap (λ z. cond z 1 0) e)

  later_none : (a m : ℕ) → get_or firsts r 0 < a → all_times a m ≡ 0
  later_none a zero less = refl
  later_none a (suc m) less = omega (arith, next_times a m false (ne_eqb (get_or firsts r 0) a (λ s. omega (arith, s, less))), later_none (a + 1) m (omega (arith, less)))

  just_one : (a m : ℕ) → a ≤ get_or firsts r 0 → get_or firsts r 0 < a + m → all_times a m ≡ 1
  just_one a zero le less = absurd (omega (arith, le, less))
  just_one a (suc m) le less = by_place (eqb (get_or firsts r 0) a) refl (λ further. just_one (a + 1) m further (omega (arith, less)))
    where
      by_place : (b : Bool) → eqb (get_or firsts r 0) a ≡ b → (a + 1 ≤ get_or firsts r 0 → all_times (a + 1) m ≡ 1) → all_times a (suc m) ≡ 1
      by_place true e later = next_times a m true e ∙ ap (λ z. 1 + z) (later_none (a + 1) m (omega (arith, eqb-true (get_or firsts r 0) a e)))
      by_place false e later = omega (arith, next_times a m false e, later (further (λ s. true≢false (sym (eq-eqb (get_or firsts r 0) a s) ∙ e))))
        where
          further : get_or firsts r 0 ≢ a → a + 1 ≤ get_or firsts r 0
          further other = omega (arith, le, other)

  once : count_by (λ q. eqb q r) (flat_map (λ c. c) (filter has_members (map (members firsts) (range_with_len 0 n)))) ≡ 1
  once =
      sym (is_count_by (times r) (λ q. eqb q r) refl (λ x xs. refl) (flat_map (λ c. c) (filter has_members (map (members firsts) (range_with_len 0 n)))))
      ∙ just_one 0 n (omega arith) (omega (arith, p.least r r_in, r_in))

-- ---- the clusters of a function

pub clusters_fit : (f : Function) → ClustersFit (length f.registers.items) (clusters_of f)
clusters_fit f =
    let n = length f.registers.items in
    let p : AreFirsts n (firsts_of f) = joined_firsts n (pairs f) (range_with_len 0 n) (alone_firsts n) in
    record {
      each = each_fits n (firsts_of f) p 0 n (omega arith);
      order = firsts_ascending n (firsts_of f) p 0 n (omega arith);
      once = λ r below. once n (firsts_of f) p r below;
    }

pub found_fit : {E : Type 0} (r : Result (Vec (Vec ℕ Global) Global) E) (f : Function) → IfOk r (λ found. lists_of found.items ≡ clusters_of f) → IfOk r (λ found. ClustersFit (length f.registers.items) (lists_of found.items))
found_fit (Ok found) f is = subst (ClustersFit (length f.registers.items)) (sym is) (clusters_fit f)
found_fit (Err e) f is = tt
