-- Which values have a spelling.
use Rattle.std.specs.Prelude.{◌≡◌, ℕ, ℤ, pos, negsuc, ◌+◌, ◌*◌, ◌^◌, Bool, true, ◌&&◌, ◌||◌, ◌==◌, not, nat_le, nat_lt, int_le, neg_ℤ, List, [], ◌∷◌, length, Option, Some, None}
use Rattle.std.specs.List.{list_all, list_any, concat, slice_index}
use Rattle.sv_base.specs.declared.colour.Colour.{Colour}
use Rattle.sv_base.specs.declared.ids.SiteId.{SiteId}
use Rattle.core_ir.specs.declared.artifacts.Constraint.{Constraint}
use Rattle.core_ir.specs.declared.artifacts.WritePart.{WritePart}
use Rattle.core_ir.specs.Constraints.{is_constraint_before}
use Rattle.artifact_codec.specs.Spelling.{spelling}
use Rattle.core_ir.specs.Plain.{PlainBounds, PlainCall, PlainArtifact, PlainStored, Constraints, Solved, Clusters, Summary, Colours}

-- ---- lists

abbrev pub is_after : {A : Type 0} → (A → A → Bool) → Option A → A → Bool
is_after before None x = true
is_after before (Some last) x = before last x

abbrev pub ascend_from : {A : Type 0} → (A → A → Bool) → Option A → List A → Bool
ascend_from before last [] = true
ascend_from before last (x ∷ xs) = is_after before last x && ascend_from before (Some x) xs

-- each is after the one before it
abbrev pub ascend : {A : Type 0} → (A → A → Bool) → List A → Bool
ascend before xs = ascend_from before None xs

-- none stands twice
abbrev pub are_distinct : List ℕ → Bool
are_distinct [] = true
are_distinct (n ∷ ns) = not (list_any (λ m. m == n) ns) && are_distinct ns

-- the length is a number of four bytes
abbrev pub is_short : {A : Type 0} → List A → Bool
is_short xs = nat_lt (length xs) (2 ^ 32)

-- ---- constraints

-- the rules on sub-objects, copied objects and arguments have a third number
abbrev pub has_third : ℕ → Bool
has_third rule = (rule == 5) || (rule == 6) || (rule == 7)

abbrev pub is_constraint : Constraint → Bool
is_constraint c = nat_le 1 c.rule && nat_le c.rule 8 && (has_third c.rule || (c.third == 0))

abbrev pub are_constraints : List Constraint → Bool
are_constraints cs = is_short cs && list_all is_constraint cs && ascend is_constraint_before cs

-- ---- sets and clusters

abbrev pub is_set : List ℕ → Bool
is_set ns = is_short ns && ascend nat_lt ns

abbrev pub are_sets : List (List ℕ) → Bool
are_sets sets = is_short sets && list_all is_set sets

abbrev pub is_cluster : List ℕ → Bool
is_cluster ns = nat_le 1 (length ns) && nat_le (length ns) 16 && ascend nat_lt ns

abbrev pub first_of : List ℕ → ℕ
first_of ns = slice_index ns 0

-- clusters in the order of their first registers, no register in two
abbrev pub are_clusters : List (List ℕ) → Bool
are_clusters cs = is_short cs && list_all is_cluster cs && ascend (λ a b. nat_lt (first_of a) (first_of b)) cs && are_distinct (concat cs)

-- ---- summaries

-- within 2^81 either way
abbrev pub is_bound : ℤ → Bool
is_bound z = int_le (neg_ℤ (pos (2 ^ 81))) z && int_le z (pos (2 ^ 81))

abbrev pub is_entry : Option ℤ → Bool
is_entry None = true
is_entry (Some z) = is_bound z

-- 1 to 16 variables, and a bound for each two of them and the constant
abbrev pub is_matrix : PlainBounds → Bool
is_matrix b = nat_le 1 b.size && nat_le b.size 16 && (length b.entries == b.size * (b.size + 1)) && list_all is_entry b.entries

abbrev pub are_matrices : List PlainBounds → Bool
are_matrices bs = is_short bs && list_all is_matrix bs

abbrev pub is_state : Option (List PlainBounds) → Bool
is_state None = true
is_state (Some bs) = are_matrices bs

abbrev pub is_call : PlainCall → Bool
is_call c = are_matrices c.entry

abbrev pub are_calls : List PlainCall → Bool
are_calls cs = is_short cs && list_all is_call cs && ascend (λ a b. nat_lt a.callee b.callee) cs

abbrev pub is_write : WritePart → Bool
is_write w = int_le w.low w.high

abbrev pub are_writes : List WritePart → Bool
are_writes ws = is_short ws && list_all is_write ws && ascend (λ a b. nat_lt a.class b.class) ws

abbrev pub is_summary : PlainArtifact → Bool
is_summary a = is_state a.context && is_state a.result && are_calls a.calls && are_writes a.writes

-- ---- colours

abbrev pub are_colours : List (SiteId × Colour) → Bool
are_colours cs = is_short cs && ascend (λ a b. nat_lt a.0.0 b.0.0) cs

-- ---- all kinds

-- the demands on what is stored
abbrev pub meets : PlainStored → Bool
meets (Constraints cs) = are_constraints cs
meets (Solved sets) = are_sets sets
meets (Clusters cs) = are_clusters cs
meets (Summary a) = is_summary a
meets (Colours cs) = are_colours cs

-- ---- the ranges of the types

abbrev pub is_u32 : ℕ → Bool
is_u32 n = nat_lt n (2 ^ 32)

abbrev pub is_i128 : ℤ → Bool
is_i128 (pos n) = nat_lt n (2 ^ 127)
is_i128 (negsuc n) = nat_lt n (2 ^ 127)

abbrev pub constraint_fits : Constraint → Bool
constraint_fits c = is_u32 c.target && is_u32 c.source && is_u32 c.third

abbrev pub write_fits : WritePart → Bool
write_fits w = is_u32 w.class && is_i128 w.low && is_i128 w.high

-- each number is one of its type
abbrev pub fits : PlainStored → Bool
fits (Constraints cs) = list_all constraint_fits cs
fits (Solved sets) = list_all (list_all is_u32) sets
fits (Clusters cs) = list_all (list_all is_u32) cs
fits (Summary a) = list_all (λ c. is_u32 c.callee) a.calls && list_all write_fits a.writes
fits (Colours cs) = list_all (λ p. is_u32 p.0.0) cs

-- it has a spelling
abbrev pub is_stored : PlainStored → Bool
is_stored v = meets v && fits v

abbrev pub IsStored : PlainStored → Type 0
IsStored v = is_stored v ≡ true

-- the bytes are the spelling of the value
abbrev pub IsSpellingOf : PlainStored → List ℕ → Type 0
IsSpellingOf v bytes = IsStored v × (spelling v ≡ bytes)
