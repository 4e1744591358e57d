-- What is gone past is clusters that meet the demands.
use Rattle.std.proofs.Common.{◌≡◌, ℕ, suc, ◌-◌, ◌≤◌, ◌^◌, Bool, true, false, cond, ◌&&◌, List, [], ◌∷◌, ◌++◌, length, Option, Some, None, refl, sym, ap, subst, ◌∙◌, append_assoc, arith}
use Rattle.std.specs.Prelude.{nat_lt, nat_le, is_some}
use Rattle.std.specs.List.{list_all, flat_map, concat}
use Rattle.std.proofs.lemmas.Bool.{and_parts, and_from, leb-true, lt-ltb}
use Rattle.artifact_codec.specs.Spelling.{number, numbers, counted}
use Rattle.artifact_codec.specs.Demands.{is_short, is_u32, is_after, ascend_from, ascend, is_cluster, first_of, are_distinct, are_clusters}
use Rattle.artifact_codec.specs.computed.Reading.{◌>>=◌, number_at, numbers_at, counted_at}
use Rattle.artifact_codec.specs.computed.Checking.{past_in_order, ordered_past, next_number, next_cluster, registers_distinct, clusters_past}
use Rattle.artifact_codec.proofs.Parts.{IsBytes, bind_some, guard_some, some_is, first, Takes, Takes-then, number_field}
use Rattle.artifact_codec.proofs.Lists.{Again, counted_again, good_list, Gone, IsPast, GoneNext, IsNext, chain, order_takes, order_again, ordered_is_past, chain_is, list_all_both}
use Rattle.artifact_codec.proofs.Past.{number_next, spread}

pub guard_then : {A : Type 0} (b : Bool) (x : Option A) (y : A) → cond b x None ≡ Some y → (b ≡ true) × (x ≡ Some y)
guard_then true x y e = (refl, e)
guard_then false x y e = absurd cc

abbrev good_number : Option ℕ → ℕ → Bool
good_number last n = is_u32 n && is_after nat_lt last n

abbrev good_cluster : Option ℕ → List ℕ → Bool
good_cluster last c = (is_cluster c && list_all is_u32 c) && is_after nat_lt last (first_of c)

abbrev is_size : ℕ → Bool
is_size n = nat_le 1 n && nat_le n 16

gone : (bytes b1 b2 b3 : List ℕ) (size head : ℕ) (others : List ℕ) (last : Option ℕ) → Takes bytes (number size) b1 → is_size size ≡ true → Takes b1 (number head) b2 → good_number last head ≡ true
    → Takes b2 (flat_map number others) b3 → length others ≡ size - 1 → chain (λ n. n) good_number (Some head) others ≡ true → GoneNext numbers first_of good_cluster last bytes head b3
gone bytes b1 b2 b3 size head others last p small q good r len in_order =
    let c = head ∷ others in
    let one : 1 ≤ size = leb-true 1 size (and_parts (nat_le 1 size) (nat_le size 16) small).0 in
    let size-is : size ≡ length c = omega arith in
    let fit = and_parts (is_u32 head) (is_after nat_lt last head) good in
    let rest = and_parts (list_all is_u32 others) (ascend_from nat_lt (Some head) others) (sym (chain_is (λ n. n) is_u32 nat_lt (Some head) others) ∙ in_order) in
    let cluster : is_cluster c ≡ true = and_from (is_size (length c)) (ascend nat_lt c) (subst (λ n. is_size n ≡ true) size-is small) rest.1 in
    record {
      value = c;
      key_is = refl;
      takes = Takes-then bytes (number (length c)) b1 (flat_map number c) b3 (subst (λ n. Takes bytes (number n) b1) size-is p) (Takes-then b1 (number head) b2 (flat_map number others) b3 q r);
      holds = and_from (is_cluster c && list_all is_u32 c) (is_after nat_lt last head) (and_from (is_cluster c) (list_all is_u32 c) cluster (and_from (is_u32 head) (list_all is_u32 others) fit.0 rest.0)) fit.1;
    }

cluster_takes : (last : Option ℕ) (bytes : List ℕ) (k : ℕ) (rest : List ℕ) → IsBytes bytes → next_cluster last bytes ≡ Some (k, rest) → GoneNext numbers first_of good_cluster last bytes k rest
unfolding next_cluster
cluster_takes last bytes k rest fits e =
    let inner = λ (size : ℕ × List ℕ). next_number last size.1 >>= λ f. past_in_order next_number (size.0 - 1) (Some f.0) f.1 >>= λ r. Some (f.0, r) in
    let s = first number_field (λ size. cond (is_size size.0) (inner size) None) bytes (k, rest) fits e in
    let g = guard_then (is_size s.value) (inner (s.value, s.rest)) (k, rest) s.then_is in
    let b = bind_some (next_number last s.rest) (λ f. past_in_order next_number (s.value - 1) (Some f.0) f.1 >>= λ r. Some (f.0, r)) (k, rest) g.1 in
    let n = number_next.takes last s.rest b.0.0 b.0.1 s.takes.rest_fits b.1 in
    let c = bind_some (past_in_order next_number (s.value - 1) (Some b.0.0) b.0.1) (λ r. Some (b.0.0, r)) (k, rest) b.2 in
    let o = order_takes next_number number (λ x. x) good_number number_next (s.value - 1) (Some b.0.0) b.0.1 c.0 n.takes.rest_fits c.1 in
    let whole = gone bytes s.rest b.0.1 c.0 s.value b.0.0 o.values last s.takes g.0 (subst (λ x. Takes s.rest (number x) b.0.1) n.key_is n.takes) (subst (λ x. good_number last x ≡ true) n.key_is n.holds) o.takes o.count_is o.holds in
    subst (λ (p : ℕ × List ℕ). GoneNext numbers first_of good_cluster last bytes p.0 p.1) (some_is (b.0.0, c.0) (k, rest) c.2) whole

size_fits : (n : ℕ) → is_size n ≡ true → is_u32 n ≡ true
size_fits n h = let le : n ≤ 16 = leb-true n 16 (and_parts (nat_le 1 n) (nat_le n 16) h).1 in lt-ltb n (2 ^ 32) (omega arith)

cluster_again : (last : Option ℕ) (c : List ℕ) (rest : List ℕ) → good_cluster last c ≡ true → next_cluster last (numbers c ++ rest) ≡ Some (first_of c, rest)
unfolding next_cluster
cluster_again last [] rest h = absurd cc
cluster_again last (f ∷ os) rest h =
    let c = f ∷ os in
    let p = and_parts (is_cluster c && list_all is_u32 c) (is_after nat_lt last f) h in
    let q = and_parts (is_cluster c) (list_all is_u32 c) p.0 in
    let size = and_parts (is_size (length c)) (ascend nat_lt c) q.0 in
    let small = and_parts (is_u32 f) (list_all is_u32 os) q.1 in
    let tail = flat_map number os ++ rest in
    let regrouped : numbers c ++ rest ≡ number (length c) ++ (number f ++ tail) = append_assoc (number (length c)) (number f ++ flat_map number os) rest ∙ ap (λ (t : List ℕ). number (length c) ++ t) (append_assoc (number f) (flat_map number os) rest) in
    let less : suc (length os) - 1 ≡ length os = omega arith in
    let order : chain (λ n. n) good_number (Some f) os ≡ true = chain_is (λ n. n) is_u32 nat_lt (Some f) os ∙ and_from (list_all is_u32 os) (ascend_from nat_lt (Some f) os) small.1 size.1 in
    ap (next_cluster last) regrouped
    ∙ rw (
      number_field.again (length c) (number f ++ tail) (size_fits (length c) size.0),
      size.0,
      number_next.again last f tail (and_from (is_u32 f) (is_after nat_lt last f) small.0 p.1),
      less,
      order_again next_number number (λ n. n) good_number number_next os (Some f) rest order,
    ) refl

cluster_next : IsNext next_cluster numbers first_of good_cluster
cluster_next = record { takes = cluster_takes; again = cluster_again }

-- ---- no register twice

pub list_all_then : {A : Type 0} (p q : A → Bool) → ((x : A) → p x ≡ true → q x ≡ true) → (xs : List A) → list_all p xs ≡ true → list_all q xs ≡ true
list_all_then p q f [] h = refl
list_all_then p q f (x ∷ xs) h = let h' = and_parts (p x) (list_all p xs) h in and_from (q x) (list_all q xs) (f x h'.0) (list_all_then p q f xs h'.1)

some_cond : {A : Type 0} (b : Bool) (x : A) → is_some (cond b (Some x) None) ≡ b
some_cond true x = refl
some_cond false x = refl

pub numbers_again : Again numbers_at numbers (good_list is_u32)
numbers_again = counted_again number_at number is_u32 (λ n rest h. number_field.again n rest h)

pub lists_again : Again (counted_at numbers_at) (counted numbers) (good_list (good_list is_u32))
lists_again = counted_again numbers_at numbers (good_list is_u32) numbers_again

cluster_short : (c : List ℕ) → is_cluster c ≡ true → is_short c ≡ true
cluster_short c h = size_fits (length c) (and_parts (is_size (length c)) (ascend nat_lt c) h).0

pub clusters_short : (cs : List (List ℕ)) → is_short cs ≡ true → list_all is_cluster cs ≡ true → list_all (list_all is_u32) cs ≡ true → good_list (good_list is_u32) cs ≡ true
clusters_short cs short good small = and_from (is_short cs) (list_all (good_list is_u32) cs) short (list_all_both is_short (list_all is_u32) cs ∙ and_from (list_all is_short cs) (list_all (list_all is_u32) cs) (list_all_then is_cluster is_short cluster_short cs good) small)

distinct_is : (cs : List (List ℕ)) (rest : List ℕ) → good_list (good_list is_u32) cs ≡ true → registers_distinct (counted numbers cs ++ rest) ≡ are_distinct (concat cs)
unfolding registers_distinct
distinct_is cs rest h = rw (lists_again cs rest h) (some_cond (are_distinct (concat cs)) (cs, rest))

-- ---- all clusters

abbrev in_order : List (List ℕ) → Bool
in_order cs = ascend (λ a b. nat_lt (first_of a) (first_of b)) cs

chained : (cs : List (List ℕ)) → (is_short cs && chain first_of good_cluster None cs) ≡ (((is_short cs && list_all is_cluster cs) && in_order cs) && list_all (list_all is_u32) cs)
chained cs =
    ap (λ b. is_short cs && b) (chain_is first_of (λ c. is_cluster c && list_all is_u32 c) nat_lt None cs ∙ ap (λ b. b && in_order cs) (list_all_both is_cluster (list_all is_u32) cs))
    ∙ spread (is_short cs) (list_all is_cluster cs) (list_all (list_all is_u32) cs) (in_order cs)

abbrev good_clusters : List (List ℕ) → Bool
good_clusters cs = are_clusters cs && list_all (list_all is_u32) cs

clusters_take : (bytes rest : List ℕ) → IsBytes bytes → clusters_past bytes ≡ Some rest → Gone (counted numbers) good_clusters bytes rest
unfolding clusters_past
clusters_take bytes rest fits e =
    let b = bind_some (ordered_past next_cluster bytes) (λ r. cond (registers_distinct bytes) (Some r) None) rest e in
    let g = (ordered_is_past next_cluster numbers first_of good_cluster cluster_next).takes bytes b.0 fits b.1 in
    let d = guard_some (registers_distinct bytes) b.0 rest b.2 in
    let cs = g.value in
    let all = and_parts ((is_short cs && list_all is_cluster cs) && in_order cs) (list_all (list_all is_u32) cs) (sym (chained cs) ∙ g.holds) in
    let three = and_parts (is_short cs && list_all is_cluster cs) (in_order cs) all.0 in
    let two = and_parts (is_short cs) (list_all is_cluster cs) three.0 in
    let distinct : are_distinct (concat cs) ≡ true = sym (distinct_is cs b.0 (clusters_short cs two.0 two.1 all.1)) ∙ sym (ap registers_distinct g.takes.parts) ∙ d.0 in
    record {
      value = cs;
      takes = subst (λ r. Takes bytes (counted numbers cs) r) d.1 g.takes;
      holds = and_from (are_clusters cs) (list_all (list_all is_u32) cs) (and_from ((is_short cs && list_all is_cluster cs) && in_order cs) (are_distinct (concat cs)) all.0 distinct) all.1;
    }

clusters_again : (cs : List (List ℕ)) (rest : List ℕ) → good_clusters cs ≡ true → clusters_past (counted numbers cs ++ rest) ≡ Some rest
unfolding clusters_past
clusters_again cs rest h =
    let all = and_parts (are_clusters cs) (list_all (list_all is_u32) cs) h in
    let four = and_parts ((is_short cs && list_all is_cluster cs) && in_order cs) (are_distinct (concat cs)) all.0 in
    let three = and_parts (is_short cs && list_all is_cluster cs) (in_order cs) four.0 in
    let two = and_parts (is_short cs) (list_all is_cluster cs) three.0 in
    let held : (is_short cs && chain first_of good_cluster None cs) ≡ true = chained cs ∙ and_from ((is_short cs && list_all is_cluster cs) && in_order cs) (list_all (list_all is_u32) cs) four.0 all.1 in
    rw ((ordered_is_past next_cluster numbers first_of good_cluster cluster_next).again cs rest held, distinct_is cs rest (clusters_short cs two.0 two.1 all.1), four.1) refl

pub clusters_are_past : IsPast clusters_past (counted numbers) good_clusters
clusters_are_past = record { takes = clusters_take; again = clusters_again }
