-- Registers that are put into the lists of their clusters.
use Rattle.std.proofs.Common.{◌≡◌, ◌≢◌, ℕ, zero, suc, ◌+◌, ◌<◌, Bool, true, false, cond, ◌||◌, nat_lt, min, max, All, eqb, ◌==◌, List, [], ◌∷◌, ◌++◌, length, map, get_or, set, take, filter, fold, Vec, Global, refl, sym, ap, subst, ◌∙◌, arith, true≢false, eq-eqb, ne_eqb, eqb-true, length-set, length-take, get_or-set_same, get_or-set_other, Option, Some, None, slice_get}
use Rattle.std.specs.List.{range_with_len}
use Rattle.std.proofs.lemmas.List.{same_lists, length-map, map-set, map_push, take_more}
use Rattle.std.proofs.lemmas.List.FromFn.{get_or-map-range_with_len, length-map-range_with_len}
use Rattle.core_ir.specs.Plain.{lists_of}
use Rattle.var_clusters.specs.Clusters.{places_from, members, size, has_members, join, united_at, moved, firsts_of, clusters_of}
use Rattle.core_ir.specs.declared.program.Function.{Function}
use Rattle.var_clusters.specs.Pairs.{Pair, pairs}
use Rattle.var_clusters.specs.computed.Partition.{AreLists}
use Rattle.var_clusters.proofs.Partitions.{range_more, range_length, item_listed}

pub pushed_empty : (lists : List (Vec ℕ Global)) (one : Vec ℕ Global) (r : ℕ) → lists_of lists ≡ map (members []) (range_with_len 0 r) → one.items ≡ [] → lists_of (lists ++ one ∷ []) ≡ map (members []) (range_with_len 0 (r + 1))
pushed_empty lists one r so_far is =
    map_push (λ v. v.items) lists one
    ∙ ap (λ z. z ++ one.items ∷ []) so_far
    ∙ ap (λ z. map (members []) (range_with_len 0 r) ++ z ∷ []) is
    ∙ sym (map_push (members []) (range_with_len 0 r) (0 + r))
    ∙ ap (map (members [])) (sym (range_more 0 r))

cond_append : (b : Bool) (i : ℕ) (xs ys : List ℕ) → cond b (i ∷ (xs ++ ys)) (xs ++ ys) ≡ cond b (i ∷ xs) xs ++ ys
cond_append true i xs ys = refl
cond_append false i xs ys = refl

places_push : (i k : ℕ) (xs : List ℕ) (c : ℕ) → places_from i k (xs ++ c ∷ []) ≡ places_from i k xs ++ cond (c == k) ((i + length xs) ∷ []) []
places_push i k [] c = ap (λ m. cond (c == k) (m ∷ []) []) (omega arith)
places_push i k (x ∷ xs) c =
    let e : (i + 1) + length xs ≡ i + suc (length xs) = omega arith in
    ap (λ z. cond (x == k) (i ∷ z) z) (places_push (i + 1) k xs c ∙ ap (λ m. places_from (i + 1) k xs ++ cond (c == k) (m ∷ []) []) e)
    ∙ cond_append (x == k) i (places_from (i + 1) k xs) (cond (c == k) ((i + suc (length xs)) ∷ []) [])

append_none : (xs : List ℕ) → xs ++ [] ≡ xs
append_none [] = refl
append_none (x ∷ xs) = ap (λ z. x ∷ z) (append_none xs)

members_more : (firsts : List ℕ) (r c k : ℕ) → r < length firsts → get_or firsts r 0 ≡ c → members (take (r + 1) firsts) k ≡ members (take r firsts) k ++ cond (c == k) (r ∷ []) []
members_more firsts r c k below is =
    let long : length (take r firsts) ≡ r = length-take_within firsts r below in
    ap (λ z. members z k) (take_more firsts r 0 below ∙ ap (λ z. take r firsts ++ z ∷ []) is)
    ∙ places_push 0 k (take r firsts) c
    ∙ ap (λ m. members (take r firsts) k ++ cond (c == k) (m ∷ []) []) (omega (arith, long))
  where
    length-take_within : (xs : List ℕ) (n : ℕ) → n < length xs → length (take n xs) ≡ n
    length-take_within xs n h = omega (arith, h, length-take n xs)

pub gathered_more : (firsts : List ℕ) (vecs : List (Vec ℕ Global)) (old new : Vec ℕ Global) (r c : ℕ) → r < length firsts → get_or firsts r 0 ≡ c → c < length firsts → lists_of vecs ≡ map (members (take r firsts)) (range_with_len 0 (length firsts)) → old ≡ get_or vecs c old → new.items ≡ old.items ++ r ∷ [] → lists_of (set vecs c new) ≡ map (members (take (r + 1) firsts)) (range_with_len 0 (length firsts))
gathered_more firsts vecs old new r c below is c_below so_far old_is new_is =
    let n = length firsts in
    let many : length (lists_of vecs) ≡ n = ap length so_far ∙ length-map-range_with_len (members (take r firsts)) 0 n in
    let c_in : c < length (lists_of vecs) = omega (arith, c_below, many) in
    let c_in_vecs : c < length vecs = omega (arith, c_in, length-map vecs (λ v. v.items)) in
    map-set (λ v. v.items) vecs c new
    ∙ same_lists (set (lists_of vecs) c new.items) (map (members (take (r + 1) firsts)) (range_with_len 0 n))
    (length-set (lists_of vecs) c new.items ∙ many ∙ sym (length-map-range_with_len (members (take (r + 1) firsts)) 0 n))
    (λ k d inside.
    let k_below : k < n = omega (arith, inside, length-set (lists_of vecs) c new.items, many) in
    at_place firsts (lists_of vecs) r c new.items k d below is c_in k_below so_far
    (new_is ∙ ap (λ z. z ++ r ∷ []) (item_listed vecs c old c_in_vecs old_is ∙ ap (λ z. get_or z c []) so_far ∙ get_or-map-range_with_len (members (take r firsts)) 0 n c c [] c_below (omega arith)))
    (eqb k c) refl)
  where
    at_place : (firsts : List ℕ) (lists : List (List ℕ)) (r c : ℕ) (all : List ℕ) (k : ℕ) (d : List ℕ) → r < length firsts → get_or firsts r 0 ≡ c → c < length lists → k < length firsts → lists ≡ map (members (take r firsts)) (range_with_len 0 (length firsts)) → all ≡ members (take r firsts) c ++ r ∷ [] → (b : Bool) → eqb k c ≡ b → get_or (set lists c all) k d ≡ get_or (map (members (take (r + 1) firsts)) (range_with_len 0 (length firsts))) k d
    at_place firsts lists r c all k d below is c_in k_below so_far all_is true e =
        let same : k ≡ c = eqb-true k c e in
        ap (λ z. get_or (set lists c all) z d) same
        ∙ get_or-set_same lists c all d c_in
        ∙ all_is
        ∙ ap (λ b. members (take r firsts) c ++ cond b (r ∷ []) []) (sym (eq-eqb c c refl))
        ∙ sym (members_more firsts r c c below is)
        ∙ ap (members (take (r + 1) firsts)) (sym same)
        ∙ sym (get_or-map-range_with_len (members (take (r + 1) firsts)) 0 (length firsts) k k d k_below (omega arith))
    at_place firsts lists r c all k d below is c_in k_below so_far all_is false e =
        let other : k ≢ c = λ s. true≢false (sym (eq-eqb k c s) ∙ e) in
        get_or-set_other lists c k all d other
        ∙ ap (λ z. get_or z k d) so_far
        ∙ get_or-map-range_with_len (members (take r firsts)) 0 (length firsts) k k d k_below (omega arith)
        ∙ sym (append_none (members (take r firsts) k))
        ∙ ap (λ b. members (take r firsts) k ++ cond b (r ∷ []) []) (sym (ne_eqb c k (λ s. other (sym s))))
        ∙ sym (members_more firsts r c k below is)
        ∙ sym (get_or-map-range_with_len (members (take (r + 1) firsts)) 0 (length firsts) k k d k_below (omega arith))

-- ---- lists with members

filter_append : (p : List ℕ → Bool) (xs ys : List (List ℕ)) → filter p (xs ++ ys) ≡ filter p xs ++ filter p ys
filter_append p [] ys = refl
filter_append p (x ∷ xs) ys = by_test (p x) (filter_append p xs ys)
  where
    by_test : (b : Bool) → filter p (xs ++ ys) ≡ filter p xs ++ filter p ys → cond b (x ∷ filter p (xs ++ ys)) (filter p (xs ++ ys)) ≡ cond b (x ∷ filter p xs) (filter p xs) ++ filter p ys
    by_test true e = ap (λ z. x ∷ z) e
    by_test false e = e

-- ---- as many registers as before

length_moved_if : (t : Bool) (firsts : List ℕ) (from to : ℕ) → length (cond t firsts (moved from to firsts)) ≡ length firsts
length_moved_if true firsts from to = refl
length_moved_if false firsts from to = length-map firsts (λ c. cond (c == from) to c)

length_united : (firsts : List ℕ) (a b : Option ℕ) → length (united_at firsts a b) ≡ length firsts
length_united firsts (Some k) (Some l) = length_moved_if ((k == l) || nat_lt 16 (size k firsts + size l firsts)) firsts (max k l) (min k l)
length_united firsts (Some k) None = refl
length_united firsts None b = refl

pub length_joined : (pairs : List Pair) (firsts : List ℕ) → length (fold join firsts pairs) ≡ length firsts
length_joined [] firsts = refl
length_joined (p ∷ pairs) firsts = length_joined pairs (join firsts p) ∙ length_united firsts (slice_get firsts p.0) (slice_get firsts p.1)

pub final_length : (firsts : List ℕ) (pairs : List Pair) (n : ℕ) → firsts ≡ fold join (range_with_len 0 n) pairs → length firsts ≡ n
final_length firsts pairs n is = ap length is ∙ length_joined pairs (range_with_len 0 n) ∙ range_length 0 n

same_default : (xs : List ℕ) (k d e : ℕ) → k < length xs → get_or xs k d ≡ get_or xs k e
same_default [] k d e h = absurd (omega (arith, h))
same_default (x ∷ xs) zero d e h = refl
same_default (x ∷ xs) (suc k) d e h = same_default xs k d e (omega (arith, h))

pub all_firsts : (firsts : List ℕ) (lists : List (List ℕ)) (seen : List ℕ) → AreLists firsts lists → seen ≡ firsts → All (λ c. c < length seen) seen
all_firsts firsts lists seen p is = subst (λ z. All (λ c. c < length z) z) (sym is) (λ k d below. subst (λ z. z < length firsts) (same_default firsts k 0 d below) (p.below k below))

pub gathered_is : (f : Function) (firsts seen : List ℕ) (n : ℕ) (all : List Pair) (lists : List (List ℕ)) → all ≡ pairs f → n ≡ length f.registers.items → firsts ≡ fold join (range_with_len 0 n) all → seen ≡ firsts → lists ≡ map (members seen) (range_with_len 0 (length seen)) → filter has_members lists ≡ clusters_of f
gathered_is f firsts seen n all lists all_is n_is firsts_is seen_is lists_is =
    let whole : seen ≡ firsts_of f = seen_is ∙ firsts_is ∙ ap (λ m. fold join (range_with_len 0 m) all) n_is ∙ ap (fold join (range_with_len 0 (length f.registers.items))) all_is in
    let long : length seen ≡ length f.registers.items = ap length seen_is ∙ final_length firsts all n firsts_is ∙ n_is in
    ap (filter has_members) lists_is
    ∙ ap (λ m. filter has_members (map (members seen) (range_with_len 0 m))) long
    ∙ ap (λ z. filter has_members (map (members z) (range_with_len 0 (length f.registers.items)))) whole

pub index_inside : (firsts xs : List ℕ) (vecs : List (Vec ℕ Global)) (c : ℕ) → lists_of vecs ≡ map (members xs) (range_with_len 0 (length firsts)) → c < length firsts → c < length vecs
index_inside firsts xs vecs c so_far below = omega (arith, below, ap length so_far, length-map-range_with_len (members xs) 0 (length firsts), length-map vecs (λ v. v.items))
