-- Lists that hold the registers of their clusters.
use Rattle.std.proofs.Common.{◌≡◌, ◌≢◌, ℕ, zero, suc, ◌+◌, ◌<◌, ◌≤◌, Bool, true, false, cond, ◌||◌, eqb, ◌==◌, List, [], ◌∷◌, ◌++◌, length, map, get_or, set, slice_get, Option, Some, Vec, Global, All, refl, sym, ap, subst, ◌∙◌, arith, true≢false, eq-eqb, ne_eqb, eqb-true, ltb, ltb-true, ltb-false, length-append, length-set, get_or-set_same, get_or-set_other}
use Rattle.std.specs.List.{range_with_len, slice_index}
use Rattle.std.proofs.lemmas.List.{same_lists, length-map, get_or-map, map-set, map_push}
use Rattle.core_ir.specs.Plain.{lists_of}
use Rattle.std.proofs.lemmas.List.Folds.{list_any-append, list_any_at}
use Rattle.std.proofs.lemmas.List.FromFn.{get_or-range_with_len, get_or-map-range_with_len}
use Rattle.std.proofs.lemmas.Option.{slice_get-get_or, slice_get_past}
use Rattle.var_clusters.specs.Clusters.{places_from, size, moved}
use Rattle.var_clusters.specs.computed.Partition.{AreLists, is_first, listed, placed}
use Rattle.var_clusters.proofs.Ordered.{has}
use Rattle.var_clusters.proofs.Moves.{or_false, moved_low, moved_high, moved_other, size_low, size_high, size_other}

pub range_more : (a n : ℕ) → range_with_len a (n + 1) ≡ range_with_len a n ++ (a + n) ∷ []
range_more a zero = ap (λ m. m ∷ []) (omega arith)
range_more a (suc n) =
    let e : suc n + 1 ≡ suc (n + 1) = omega arith in
    let last : (a + 1) + n ≡ a + suc n = omega arith in
    ap (range_with_len a) e ∙ ap (λ z. a ∷ z) (range_more (a + 1) n) ∙ ap (λ m. a ∷ (range_with_len (a + 1) n ++ m ∷ [])) last

pub range_length : (a n : ℕ) → length (range_with_len a n) ≡ n
range_length a zero = refl
range_length a (suc n) = ap (λ m. suc m) (range_length (a + 1) n)

-- ---- two become one

abbrev joined : List (List ℕ) → ℕ → ℕ → List (List ℕ)
joined lists low high = set (set lists high []) low (listed lists low ++ listed lists high)

module _ (firsts : List ℕ) (lists : List (List ℕ)) (p : AreLists firsts lists) (low high : ℕ) (low_in : low < length firsts) (high_in : high < length firsts) (differ : low ≢ high) where
  at_low_list : listed (joined lists low high) low ≡ listed lists low ++ listed lists high
  at_low_list = get_or-set_same (set lists high []) low (listed lists low ++ listed lists high) [] (omega (arith, low_in, p.lengths, length-set lists high []))

  at_high_list : listed (joined lists low high) high ≡ []
  at_high_list = get_or-set_other (set lists high []) low high (listed lists low ++ listed lists high) [] (λ s. differ (sym s)) ∙ get_or-set_same lists high [] [] (omega (arith, high_in, p.lengths))

  at_other_list : (k : ℕ) → k ≢ low → k ≢ high → listed (joined lists low high) k ≡ listed lists k
  at_other_list k other_low other_high = get_or-set_other (set lists high []) low k (listed lists low ++ listed lists high) [] other_low ∙ get_or-set_other lists high k [] [] other_high

  inside_low : (r : ℕ) → has r (listed (joined lists low high) low) ≡ is_first (slice_get (moved high low firsts) r) low
  inside_low r =
      ap (has r) at_low_list
      ∙ list_any-append (λ q. r == q) (listed lists low) (listed lists high)
      ∙ ap (λ b. b || has r (listed lists high)) (p.inside low r low_in)
      ∙ ap (λ b. is_first (slice_get firsts r) low || b) (p.inside high r high_in)
      ∙ sym (moved_low low high firsts r)

  inside_high : (r : ℕ) → has r (listed (joined lists low high) high) ≡ is_first (slice_get (moved high low firsts) r) high
  inside_high r = ap (has r) at_high_list ∙ sym (moved_high low high firsts r differ)

  inside_other : (k r : ℕ) → k < length firsts → k ≢ low → k ≢ high → has r (listed (joined lists low high) k) ≡ is_first (slice_get (moved high low firsts) r) k
  inside_other k r below other_low other_high = ap (has r) (at_other_list k other_low other_high) ∙ p.inside k r below ∙ sym (moved_other low high k firsts r other_low other_high)

  apart : (k j : ℕ) → eqb k j ≡ false → k ≢ j
  apart k j e s = true≢false (sym (eq-eqb k j s) ∙ e)

  inside_by : (k r : ℕ) (b c : Bool) → eqb k low ≡ b → eqb k high ≡ c → k < length firsts → has r (listed (joined lists low high) k) ≡ is_first (slice_get (moved high low firsts) r) k
  inside_by k r true c e f below = subst (λ z. has r (listed (joined lists low high) z) ≡ is_first (slice_get (moved high low firsts) r) z) (sym (eqb-true k low e)) (inside_low r)
  inside_by k r false true e f below = subst (λ z. has r (listed (joined lists low high) z) ≡ is_first (slice_get (moved high low firsts) r) z) (sym (eqb-true k high f)) (inside_high r)
  inside_by k r false false e f below = inside_other k r below (apart k low e) (apart k high f)

  sizes_by : (k : ℕ) (b c : Bool) → eqb k low ≡ b → eqb k high ≡ c → k < length firsts → length (listed (joined lists low high) k) ≡ size k (moved high low firsts)
  sizes_by k true c e f below =
      subst (λ z. length (listed (joined lists low high) z) ≡ size z (moved high low firsts)) (sym (eqb-true k low e))
      (ap length at_low_list ∙ omega (arith, length-append (listed lists low) (listed lists high), p.sizes low low_in, p.sizes high high_in, size_low low high 0 firsts differ))
  sizes_by k false true e f below =
      subst (λ z. length (listed (joined lists low high) z) ≡ size z (moved high low firsts)) (sym (eqb-true k high f))
      (ap length at_high_list ∙ sym (size_high low high 0 firsts differ))
  sizes_by k false false e f below = ap length (at_other_list k (apart k low e) (apart k high f)) ∙ p.sizes k below ∙ sym (size_other low high k 0 firsts (apart k low e) (apart k high f))

  length_moved : length (moved high low firsts) ≡ length firsts
  length_moved = length-map firsts (λ c. cond (c == high) low c)

  below_by : (c : ℕ) (b : Bool) → c < length firsts → cond b low c < length firsts
  below_by c true h = low_in
  below_by c false h = h

  pub joined_lists : AreLists (moved high low firsts) (joined lists low high)
  joined_lists = record {
    lengths = length-set (set lists high []) low _ ∙ length-set lists high [] ∙ p.lengths ∙ sym length_moved;
    inside = λ k r below. inside_by k r (eqb k low) (eqb k high) refl refl (subst (λ n. k < n) length_moved below);
    sizes = λ k below. sizes_by k (eqb k low) (eqb k high) refl refl (subst (λ n. k < n) length_moved below);
    below = λ r below. subst (λ n. slice_index (moved high low firsts) r < n) (sym length_moved) (subst (λ z. z < length firsts) (sym (get_or-map (λ c. cond (c == high) low c) firsts r 0 0 (subst (λ n. r < n) length_moved below))) (below_by (slice_index firsts r) (slice_index firsts r == high) (p.below r (subst (λ n. r < n) length_moved below))));
  }

-- ---- the registers are placed one by one

get_placed : (to : ℕ) (rs fs : List ℕ) (k d : ℕ) → k < length fs → get_or (placed to rs fs) k d ≡ cond (has k rs) to (get_or fs k d)
get_placed to [] fs k d below = refl
get_placed to (r ∷ rs) fs k d below =
    get_placed to rs (set fs r to) k d (omega (arith, below, length-set fs r to)) ∙ by_place (eqb k r) refl
  where
    by_place : (b : Bool) → eqb k r ≡ b → cond (has k rs) to (get_or (set fs r to) k d) ≡ cond (b || has k rs) to (get_or fs k d)
    by_place true e = either (has k rs) (ap (λ z. get_or (set fs z to) k d) (sym (eqb-true k r e)) ∙ get_or-set_same fs k to d below)
      where
        either : (b : Bool) → get_or (set fs r to) k d ≡ to → cond b to (get_or (set fs r to) k d) ≡ to
        either true h = refl
        either false h = h
    by_place false e = ap (λ z. cond (has k rs) to z) (get_or-set_other fs r k to d (λ s. true≢false (sym (eq-eqb k r s) ∙ e)))

length_placed : (to : ℕ) (rs fs : List ℕ) → length (placed to rs fs) ≡ length fs
length_placed to [] fs = refl
length_placed to (r ∷ rs) fs = length_placed to rs (set fs r to) ∙ length-set fs r to

pub placed_is : (firsts : List ℕ) (lists : List (List ℕ)) → AreLists firsts lists → (low high : ℕ) → high < length firsts → placed low (listed lists high) firsts ≡ moved high low firsts
placed_is firsts lists p low high high_in =
    let f : ℕ → ℕ = λ c. cond (c == high) low c in
    same_lists (placed low (listed lists high) firsts) (moved high low firsts) (length_placed low (listed lists high) firsts ∙ sym (length-map firsts f))
    (λ k d below.
    let inside : k < length firsts = subst (λ n. k < n) (length_placed low (listed lists high) firsts) below in
    get_placed low (listed lists high) firsts k d inside
    ∙ ap (λ b. cond b low (get_or firsts k d)) (p.inside high k high_in ∙ ap (λ o. is_first o high) (slice_get-get_or firsts k d inside))
    ∙ sym (get_or-map f firsts k d d inside))

-- each is a register
pub listed_below : (firsts : List ℕ) (o : Option ℕ) (k r : ℕ) → slice_get firsts r ≡ o → is_first o k ≡ true → r < length firsts
listed_below [] o k r e h = absurd (true≢false (sym h ∙ ap (λ z. is_first z k) (sym e)))
listed_below (c ∷ firsts) o k zero e h = omega arith
listed_below (c ∷ firsts) o k (suc r) e h = omega (arith, listed_below firsts o k r e h)

-- ---- each alone

count_past : (a i k n : ℕ) → k < a → length (places_from i k (range_with_len a n)) ≡ 0
count_past a i k zero less = refl
count_past a i k (suc n) less = rw (ne_eqb a k (λ s. omega (arith, s, less))) (count_past (a + 1) (i + 1) k n (omega (arith, less)))

pub count_one : (a i k n : ℕ) → a ≤ k → k < a + n → length (places_from i k (range_with_len a n)) ≡ 1
count_one a i k zero le less = absurd (omega (arith, le, less))
count_one a i k (suc n) le less = by_place (eqb a k) refl (λ more. count_one (a + 1) (i + 1) k n more (omega (arith, less)))
  where
    by_place : (b : Bool) → eqb a k ≡ b → (a + 1 ≤ k → length (places_from (i + 1) k (range_with_len (a + 1) n)) ≡ 1) → length (cond b (i ∷ places_from (i + 1) k (range_with_len (a + 1) n)) (places_from (i + 1) k (range_with_len (a + 1) n))) ≡ 1
    by_place true e later = ap (λ m. suc m) (count_past (a + 1) (i + 1) k n (omega (arith, eqb-true a k e)))
    by_place false e later = later (next (λ s. true≢false (sym (eq-eqb a k s) ∙ e)))
      where
        next : a ≢ k → a + 1 ≤ k
        next other = omega (arith, le, other)

alone_first : (n k r : ℕ) (b : Bool) → ltb r n ≡ b → k < n → has r (k ∷ []) ≡ is_first (slice_get (range_with_len 0 n) r) k
alone_first n k r true e inside =
    let less : r < n = ltb-true r n e in
    let at : slice_get (range_with_len 0 n) r ≡ Some r = slice_get-get_or (range_with_len 0 n) r 0 (omega (arith, less, range_length 0 n)) ∙ ap (λ z. Some z) (get_or-range_with_len 0 n r 0 less ∙ omega arith) in
    sym (or_false (r == k)) ∙ ap (λ o. is_first o k) (sym at)
alone_first n k r false e inside =
    let more : n ≤ r = ltb-false r n e in
    sym (or_false (r == k)) ∙ ne_eqb r k (λ s. omega (arith, s, more, inside)) ∙ ap (λ o. is_first o k) (sym (slice_get_past (range_with_len 0 n) r (omega (arith, more, range_length 0 n))))

-- each register is alone in its list
pub alone_lists : (n : ℕ) → AreLists (range_with_len 0 n) (map (λ r. r ∷ []) (range_with_len 0 n))
alone_lists n =
    let one : (k : ℕ) → k < length (range_with_len 0 n) → listed (map (λ r. r ∷ []) (range_with_len 0 n)) k ≡ k ∷ [] = λ k below. get_or-map-range_with_len (λ r. r ∷ []) 0 n k k [] (omega (arith, below, range_length 0 n)) (omega arith) in
    record {
      lengths = length-map (range_with_len 0 n) (λ r. r ∷ []);
      inside = λ k r below. ap (has r) (one k below) ∙ alone_first n k r (ltb r n) refl (omega (arith, below, range_length 0 n));
      sizes = λ k below. ap length (one k below) ∙ sym (count_one 0 0 k n (omega arith) (omega (arith, below, range_length 0 n)));
      below = λ r below. omega (arith, below, range_length 0 n, get_or-range_with_len 0 n r 0 (omega (arith, below, range_length 0 n)));
    }

-- ---- as the code does it

pub united_lists : (firsts after : List ℕ) (vecs : List (Vec ℕ Global)) (low high : ℕ) (taken empty kept all : Vec ℕ Global) → AreLists firsts (lists_of vecs) → low < length firsts → high < length firsts → low ≢ high → taken.items ≡ listed (lists_of vecs) high → empty.items ≡ [] → kept.items ≡ listed (lists_of (set vecs high empty)) low → all.items ≡ kept.items ++ taken.items → after ≡ placed low taken.items firsts → AreLists after (lists_of (set (set vecs high empty) low all)) × (after ≡ moved high low firsts)
united_lists firsts after vecs low high taken empty kept all p low_in high_in differ taken_is empty_is kept_is all_is after_is =
    let lists = lists_of vecs in
    let emptied : lists_of (set vecs high empty) ≡ set lists high [] = map-set (λ v. v.items) vecs high empty ∙ ap (set lists high) empty_is in
    let kept_listed : kept.items ≡ listed lists low = kept_is ∙ ap (λ z. listed z low) emptied ∙ get_or-set_other lists high low [] [] differ in
    let whole : all.items ≡ listed lists low ++ listed lists high = all_is ∙ ap (λ z. z ++ taken.items) kept_listed ∙ ap (λ z. listed lists low ++ z) taken_is in
    let now : lists_of (set (set vecs high empty) low all) ≡ joined lists low high = map-set (λ v. v.items) (set vecs high empty) low all ∙ ap (λ z. set z low all.items) emptied ∙ ap (set (set lists high []) low) whole in
    let goes : after ≡ moved high low firsts = after_is ∙ ap (λ z. placed low z firsts) taken_is ∙ placed_is firsts lists p low high high_in in
    (subst (λ z. AreLists after z) (sym now) (subst (λ z. AreLists z (joined lists low high)) (sym goes) (joined_lists firsts lists p low high low_in high_in differ)), goes)

pub all_below : (firsts : List ℕ) (lists : List (List ℕ)) → AreLists firsts lists → (high : ℕ) → high < length firsts → (rs : List ℕ) → rs ≡ listed lists high → All (λ r. r < length firsts) rs
all_below firsts lists p high high_in rs is = λ k d below.
    listed_below firsts (slice_get firsts (get_or rs k d)) high (get_or rs k d) refl
    (sym (p.inside high (get_or rs k d) high_in) ∙ ap (has (get_or rs k d)) (sym is) ∙ list_any_at (λ q. get_or rs k d == q) rs k d below (eq-eqb (get_or rs k d) (get_or rs k d) refl))

pub item_listed : (vecs : List (Vec ℕ Global)) (k : ℕ) (v : Vec ℕ Global) → k < length vecs → v ≡ get_or vecs k v → v.items ≡ listed (lists_of vecs) k
item_listed vecs k v below is = ap (λ w. w.items) is ∙ sym (get_or-map (λ w. w.items) vecs k v [] below)

pub pushed_one : (lists : List (Vec ℕ Global)) (one : Vec ℕ Global) (r : ℕ) → lists_of lists ≡ map (λ r. r ∷ []) (range_with_len 0 r) → one.items ≡ r ∷ [] → lists_of (lists ++ one ∷ []) ≡ map (λ r. r ∷ []) (range_with_len 0 (r + 1))
pushed_one lists one r so_far is =
    map_push (λ v. v.items) lists one
    ∙ ap (λ z. z ++ one.items ∷ []) so_far
    ∙ ap (λ z. map (λ r. r ∷ []) (range_with_len 0 r) ++ z ∷ []) is
    ∙ ap (λ m. map (λ r. r ∷ []) (range_with_len 0 r) ++ (m ∷ []) ∷ []) (omega arith)
    ∙ sym (map_push (λ r. r ∷ []) (range_with_len 0 r) (0 + r))
    ∙ ap (map (λ r. r ∷ [])) (sym (range_more 0 r))

pub vec_below : (firsts : List ℕ) (vecs : List (Vec ℕ Global)) → AreLists firsts (lists_of vecs) → (k : ℕ) → k < length firsts → k < length vecs
vec_below firsts vecs p k below = omega (arith, below, p.lengths, length-map vecs (λ v. v.items))
