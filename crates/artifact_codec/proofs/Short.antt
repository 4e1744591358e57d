-- An item of a list whose items all pass a test.
use Rattle.std.proofs.Common.{◌≡◌, ℕ, zero, suc, ◌<◌, ◌≤◌, ◌^◌, ◌&&◌, Bool, true, List, [], ◌∷◌, length, map, get_or, refl, arith}
use Rattle.std.specs.Prelude.{nat_lt, nat_le}
use Rattle.std.specs.List.{list_all, concat}
use Rattle.std.proofs.lemmas.Bool.{and_parts, and_from, leb-true, lt-ltb}
use Rattle.artifact_codec.specs.Demands.{is_short, is_set, are_sets, is_cluster, are_clusters, are_distinct, ascend, first_of}

pub passes_at : {A B : Type 0} (test : B → Bool) (view : A → B) (xs : List A) (i : ℕ) (d : A) → list_all test (map view xs) ≡ true → i < length xs → test (view (get_or xs i d)) ≡ true
passes_at test view [] i d h lt = absurd (omega (arith, lt))
passes_at test view (x ∷ xs) zero d h lt = (and_parts _ _ h).0
passes_at test view (x ∷ xs) (suc i) d h lt = passes_at test view xs i d (and_parts _ _ h).1 (omega (arith, lt))

-- ---- lists of lists

all_short : (test : List ℕ → Bool) → ((ns : List ℕ) → test ns ≡ true → is_short ns ≡ true) → (lists : List (List ℕ)) → list_all test lists ≡ true → list_all is_short lists ≡ true
all_short test f [] h = refl
all_short test f (ns ∷ lists) h = let p = and_parts (test ns) (list_all test lists) h in and_from (is_short ns) (list_all is_short lists) (f ns p.0) (all_short test f lists p.1)

pub sets_are_short : (sets : List (List ℕ)) → are_sets sets ≡ true → list_all is_short sets ≡ true
sets_are_short sets h = all_short is_set (λ ns e. (and_parts (is_short ns) (ascend nat_lt ns) e).0) sets (and_parts (is_short sets) (list_all is_set sets) h).1

cluster_is_short : (ns : List ℕ) → is_cluster ns ≡ true → is_short ns ≡ true
cluster_is_short ns h =
    let p = and_parts (nat_le 1 (length ns) && nat_le (length ns) 16) (ascend nat_lt ns) h in
    let le : length ns ≤ 16 = leb-true (length ns) 16 (and_parts (nat_le 1 (length ns)) (nat_le (length ns) 16) p.0).1 in
    lt-ltb (length ns) (2 ^ 32) (omega (arith, le))

pub clusters_are_short : (cs : List (List ℕ)) → are_clusters cs ≡ true → list_all is_short cs ≡ true
clusters_are_short cs h =
    let p = and_parts ((is_short cs && list_all is_cluster cs) && ascend (λ a b. nat_lt (first_of a) (first_of b)) cs) (are_distinct (concat cs)) h in
    let q = and_parts (is_short cs && list_all is_cluster cs) (ascend (λ a b. nat_lt (first_of a) (first_of b)) cs) p.0 in
    all_short is_cluster cluster_is_short cs (and_parts (is_short cs) (list_all is_cluster cs) q.0).1
