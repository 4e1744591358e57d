-- The clusters of a function's registers. While they are made, each register has the first register of its cluster.
use Rattle.std.specs.Prelude.{ℕ, Bool, ◌==◌, ◌||◌, ◌+◌, nat_lt, cond, min, max, List, [], ◌∷◌, length, map, Option, Some}
use Rattle.std.specs.List.{filter, fold, range_with_len, slice_get}
use Rattle.core_ir.specs.declared.program.Function.{Function}
use Rattle.var_clusters.specs.Pairs.{Pair, pairs}

-- the places from i on at which k stands
abbrev pub places_from : ℕ → ℕ → List ℕ → List ℕ
places_from i k [] = []
places_from i k (c ∷ rest) = cond (c == k) (i ∷ places_from (i + 1) k rest) (places_from (i + 1) k rest)

-- the registers of a cluster, ascending
abbrev pub members : List ℕ → ℕ → List ℕ
members firsts k = places_from 0 k firsts

abbrev pub size : ℕ → List ℕ → ℕ
size k firsts = length (members firsts k)

-- the registers of one cluster go to another
abbrev pub moved : ℕ → ℕ → List ℕ → List ℕ
moved from to firsts = map (λ c. cond (c == from) to c) firsts

-- two clusters become one unless they have more than 16 registers together
abbrev pub united : List ℕ → ℕ → ℕ → List ℕ
united firsts k l = cond ((k == l) || nat_lt 16 (size k firsts + size l firsts)) firsts (moved (max k l) (min k l) firsts)

abbrev pub united_at : List ℕ → Option ℕ → Option ℕ → List ℕ
united_at firsts (Some k) (Some l) = united firsts k l
united_at firsts _ _ = firsts

-- a pair joins the clusters of its two registers
abbrev pub join : List ℕ → Pair → List ℕ
join firsts p = united_at firsts (slice_get firsts p.0) (slice_get firsts p.1)

-- each register alone at first, then one pair after another
abbrev pub firsts_of : Function → List ℕ
firsts_of f = fold join (range_with_len 0 (length f.registers.items)) (pairs f)

abbrev pub has_members : List ℕ → Bool
has_members ns = nat_lt 0 (length ns)

-- the clusters in the order of their first registers
abbrev pub clusters_of : Function → List (List ℕ)
clusters_of f = filter has_members (map (members (firsts_of f)) (range_with_len 0 (length f.registers.items)))
