-- A matrix of two variables and a partition into clusters that fit, and what becomes of them by one change.
use Rattle.std.specs.Prelude.{ℕ, ◌+◌, ◌^◌, pos, neg_ℤ, List, [], ◌∷◌, Some, None}
use Rattle.std.specs.List.{range_with_len}
use Rattle.core_ir.specs.Plain.{PlainBounds}
use Rattle.core_ir.specs.Ranges.{Range}

-- both variables are digits
abbrev pub digits : List Range
digits = (pos 0, pos 9) ∷ (pos 0, pos 9) ∷ []

-- The first is from 0 to 9, the second from 0 to 8 and at most 3 above the first. The entries bound v1 - v0, v2 - v0, v0 - v1, v2 - v1,
-- v0 - v2 and v1 - v2.
abbrev pub worked_bounds : PlainBounds
worked_bounds = record { size = 2; entries = Some (pos 9) ∷ Some (pos 8) ∷ Some (pos 0) ∷ Some (pos 3) ∷ Some (pos 0) ∷ None ∷ [] }

-- ---- one change

abbrev pub of_one_variable : PlainBounds
of_one_variable = record { size = 1; entries = Some (pos 9) ∷ Some (pos 0) ∷ [] }

abbrev pub without_last_entry : PlainBounds
without_last_entry = record worked_bounds { entries = Some (pos 9) ∷ Some (pos 8) ∷ Some (pos 0) ∷ Some (pos 3) ∷ Some (pos 0) ∷ [] }

abbrev pub too_great : PlainBounds
too_great = record worked_bounds { entries = Some (pos 9) ∷ Some (pos 8) ∷ Some (pos 0) ∷ Some (pos 3) ∷ Some (pos 0) ∷ Some (pos (2 ^ 81 + 1)) ∷ [] }

abbrev pub too_small : PlainBounds
too_small = record worked_bounds { entries = Some (pos 9) ∷ Some (pos 8) ∷ Some (pos 0) ∷ Some (pos 3) ∷ Some (pos 0) ∷ Some (neg_ℤ (pos (2 ^ 81 + 1))) ∷ [] }

-- the first is at least 4 below the second, which is at most 3 above it
abbrev pub contradictory : PlainBounds
contradictory = record worked_bounds { entries = Some (pos 9) ∷ Some (pos 8) ∷ Some (pos 0) ∷ Some (pos 3) ∷ Some (pos 0) ∷ Some (neg_ℤ (pos 4)) ∷ [] }

-- the second may be 10
abbrev pub above_range : PlainBounds
above_range = record worked_bounds { entries = Some (pos 9) ∷ Some (pos 10) ∷ Some (pos 0) ∷ Some (pos 3) ∷ Some (pos 0) ∷ None ∷ [] }

abbrev pub without_upper_bound : PlainBounds
without_upper_bound = record worked_bounds { entries = Some (pos 9) ∷ None ∷ Some (pos 0) ∷ Some (pos 3) ∷ Some (pos 0) ∷ None ∷ [] }

-- the first may be -1
abbrev pub below_range : PlainBounds
below_range = record worked_bounds { entries = Some (pos 9) ∷ Some (pos 8) ∷ Some (pos 1) ∷ Some (pos 3) ∷ Some (pos 0) ∷ None ∷ [] }

-- ---- clusters of the registers 0 to 3

abbrev pub worked_clusters : List (List ℕ)
worked_clusters = (0 ∷ 2 ∷ 3 ∷ []) ∷ (1 ∷ []) ∷ []

-- of the registers 0 to 15
abbrev pub sixteen : List (List ℕ)
sixteen = range_with_len 0 16 ∷ []

-- of the registers 0 to 16
abbrev pub seventeen : List (List ℕ)
seventeen = range_with_len 0 17 ∷ []

-- ---- one change

abbrev pub empty_cluster : List (List ℕ)
empty_cluster = [] ∷ []

abbrev pub descending : List (List ℕ)
descending = (0 ∷ 3 ∷ 2 ∷ []) ∷ (1 ∷ []) ∷ []

abbrev pub with_fifth_register : List (List ℕ)
with_fifth_register = (0 ∷ 2 ∷ 3 ∷ []) ∷ (1 ∷ []) ∷ (4 ∷ []) ∷ []

abbrev pub out_of_order : List (List ℕ)
out_of_order = (1 ∷ []) ∷ (0 ∷ 2 ∷ 3 ∷ []) ∷ []

abbrev pub without_register : List (List ℕ)
without_register = (0 ∷ 2 ∷ 3 ∷ []) ∷ []

abbrev pub with_register_twice : List (List ℕ)
with_register_twice = (0 ∷ 2 ∷ 3 ∷ []) ∷ (1 ∷ 2 ∷ []) ∷ []
