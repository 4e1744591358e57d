-- What the analysis asks of matrices that are stored.
use Rattle.std.specs.Prelude.{◌≡◌, ◌≢◌, ℕ, ◌+◌, ◌-◌, ◌*◌, ◌≤◌, ◌<◌, ◌^◌, ⊤, Bool, false, ◌||◌, nat_lt, cond, eqb, ℤ, pos, neg_ℤ, ◌-ℤ◌, ◌≤ℤ◌, List, [], ◌∷◌, length, map, filter, flat_map, unwrap_or, option_map, Option, Some, None, slice_index_or, count_by}
use Rattle.std.specs.List.{AllByRecursion}
use Rattle.core_ir.specs.Lists.{IsAscending, AllFrom}
use Rattle.core_ir.specs.Plain.{PlainBounds}
use Rattle.core_ir.specs.Programs.{PlainFunction}
use Rattle.core_ir.specs.Ranges.{Range, within, leaf_range, Includes}
use Rattle.core_ir.specs.StepsFit.{leaf_at}

-- ---- one matrix, over the variables 1 to its size and the constant 0 as variable 0

-- the bound of v_j - v_i; the entries leave out those of a variable with itself
abbrev pub bound_at : PlainBounds → ℕ → ℕ → Option ℤ
bound_at b i j = slice_index_or b.entries (i * b.size + cond (nat_lt i j) (j - 1) j) None

abbrev pub BoundWithin : Range → Option ℤ → Type 0
BoundWithin range None = ⊤
BoundWithin range (Some c) = Includes range (c, c)

abbrev pub AtMost : ℤ → Option ℤ → Type 0
AtMost w None = ⊥
AtMost w (Some c) = c ≤ℤ w

-- numbers of the variables that meet all bounds
pub record IsSolution (b : PlainBounds) (v : ℕ → ℤ) : Type 0 where
  pub zero : v 0 ≡ pos 0
  pub each : (i j : ℕ) (c : ℤ) → i ≤ b.size → j ≤ b.size → i ≢ j → bound_at b i j ≡ Some c → (v j -ℤ v i) ≤ℤ c

-- a variable has both bounds against zero, neither beyond its range
pub record IsRanged (b : PlainBounds) (j : ℕ) (range : Range) : Type 0 where
  pub high : AtMost range.1 (bound_at b 0 j)
  pub low : AtMost (neg_ℤ range.0) (bound_at b j 0)

-- a matrix of variables with these ranges; bounds of a closed matrix are sums of two, so they are kept within 2 ^ 81
pub record BoundsFit (ranges : List Range) (b : PlainBounds) : Type 0 where
  pub size : b.size ≡ length ranges
  pub entries : length b.entries ≡ b.size * (b.size + 1)
  pub magnitudes : AllByRecursion (BoundWithin (within (pos (2 ^ 81)))) b.entries
  pub solution : (v : ℕ → ℤ) × IsSolution b v
  pub ranged : AllFrom (IsRanged b) 1 ranges

-- a matrix for each of several lists of ranges, in order
abbrev pub AllBoundsFit : List (List Range) → List PlainBounds → Type 0
AllBoundsFit [] [] = ⊤
AllBoundsFit (ranges ∷ more) (b ∷ rest) = BoundsFit ranges b × AllBoundsFit more rest
AllBoundsFit ranges bounds = ⊥

-- none: of a call that does not happen, or that does not return
abbrev pub SomeBoundsFit : List (List Range) → Option (List PlainBounds) → Type 0
SomeBoundsFit ranges None = ⊤
SomeBoundsFit ranges (Some bounds) = AllBoundsFit ranges bounds

-- ---- clusters

pub record ClusterFits (count : ℕ) (registers : List ℕ) : Type 0 where
  pub some : 1 ≤ length registers
  pub size : length registers ≤ 16
  pub ascending : IsAscending registers
  pub registers_below : AllByRecursion (λ r. r < count) registers

abbrev pub first_of : List ℕ → ℕ
first_of registers = slice_index_or registers 0 0

-- each register stands in exactly one cluster, and clusters are in the order of their first registers
pub record ClustersFit (count : ℕ) (clusters : List (List ℕ)) : Type 0 where
  pub each : AllByRecursion (ClusterFits count) clusters
  pub order : IsAscending (map first_of clusters)
  pub once : (r : ℕ) → r < count → count_by (λ q. eqb q r) (flat_map (λ c. c) clusters) ≡ 1

-- ---- the matrices of a function

abbrev pub register_range : PlainFunction → ℕ → Range
register_range f r = unwrap_or (option_map leaf_range (leaf_at f r)) (pos 0, pos 0)

abbrev pub has_items : List ℕ → Bool
has_items registers = nat_lt 0 (length registers)

-- by cluster that has such registers, their ranges in order
abbrev pub ranges_of : PlainFunction → (ℕ → Bool) → List (List ℕ) → List (List Range)
ranges_of f test clusters = map (map (register_range f)) (filter has_items (map (filter test) clusters))

abbrev pub is_entry : PlainFunction → ℕ → Bool
is_entry f r = nat_lt r f.parameters

abbrev pub is_result : Option ℕ → ℕ → Bool
is_result None r = false
is_result (Some q) r = eqb q r

-- a context has a matrix for each cluster with an entry register, over its entry registers
abbrev pub context_ranges : PlainFunction → List (List ℕ) → List (List Range)
context_ranges f clusters = ranges_of f (is_entry f) clusters

-- a result has one for each cluster with an entry register or the result, over these
abbrev pub result_ranges : PlainFunction → List (List ℕ) → List (List Range)
result_ranges f clusters = ranges_of f (λ r. is_entry f r || is_result f.result r) clusters
