-- What the code keeps of the clusters while they are made.
use Rattle.std.specs.Prelude.{◌≡◌, ℕ, Bool, false, ◌<◌, ◌==◌, List, [], length, Option, Some, None}
use Rattle.std.specs.List.{fold, list_any, slice_get, slice_index, slice_index_or, slice_set}
use Rattle.core_ir.specs.Plain.{lists_of}
use Rattle.var_clusters.specs.Clusters.{size}
use Rattle.var_clusters.specs.declared.partition.Partition.{Partition}

abbrev pub is_first : Option ℕ → ℕ → Bool
is_first None k = false
is_first (Some c) k = c == k

-- the registers in the list of a cluster
abbrev pub listed : List (List ℕ) → ℕ → List ℕ
listed lists k = slice_index_or lists k []

-- each list has the registers of its cluster, as many as they are
pub record AreLists (firsts : List ℕ) (lists : List (List ℕ)) : Type 0 where
  pub lengths : length lists ≡ length firsts
  pub inside : (k r : ℕ) → k < length firsts → list_any (λ q. r == q) (listed lists k) ≡ is_first (slice_get firsts r) k
  pub sizes : (k : ℕ) → k < length firsts → length (listed lists k) ≡ size k firsts
  pub below : (r : ℕ) → r < length firsts → slice_index firsts r < length firsts

abbrev pub IsPartition : Partition → Type 0
IsPartition p = AreLists p.firsts.items (lists_of p.members.items)

-- the registers go to a cluster
abbrev pub placed : ℕ → List ℕ → List ℕ → List ℕ
placed to registers firsts = fold (λ fs r. slice_set fs r to) firsts registers
