-- Contributions and an artifact that fit functions of the worked program, and what becomes of them by one change.
use Rattle.std.specs.Prelude.{ℕ, false, pos, neg_ℤ, List, [], ◌∷◌, Some, None}
use Rattle.core_ir.specs.declared.artifacts.WritePart.{WritePart}
use Rattle.core_ir.specs.Plain.{PlainArtifact, PlainBounds, PlainCall}
use Rattle.core_ir.specs.Views.{PlainCallee}
use Rattle.core_ir.specs.WorkedView.{external, numbers, zero_to_nine}
use Rattle.core_ir.specs.WorkedFacts.{pick_part, zero_to_eighteen}

-- ---- contributions of the second function, which calls the first

abbrev pub callees : List PlainCallee
callees = pick_part ∷ external ∷ []

-- the first function is called with 3 or 4, as its first cluster says: the entry register alone
abbrev pub three_or_four : PlainBounds
three_or_four = record { size = 1; entries = Some (pos 4) ∷ Some (neg_ℤ (pos 3)) ∷ [] }

abbrev pub call_part : ℕ → List PlainBounds → PlainCall
call_part callee entry = record { callee = callee; entry = entry }

abbrev pub worked_calls : List PlainCall
worked_calls = call_part 0 (three_or_four ∷ []) ∷ []

abbrev pub write_part : ℕ → WritePart
write_part class = record { class = class; low = pos 0; high = pos 3 }

-- to elements of a, and to the numbers of s1 and s2
abbrev pub worked_writes : List WritePart
worked_writes = write_part 0 ∷ write_part 5 ∷ write_part 7 ∷ []

-- ---- one change

abbrev pub twice_called : List PlainCall
twice_called = call_part 0 (three_or_four ∷ []) ∷ call_part 0 (three_or_four ∷ []) ∷ []

-- an external function takes no contribution
abbrev pub external_called : List PlainCall
external_called = call_part 2 [] ∷ []

-- the second function, of which nothing is said
abbrev pub stranger_called : List PlainCall
stranger_called = call_part 1 [] ∷ []

abbrev pub without_matrix : List PlainCall
without_matrix = call_part 0 [] ∷ []

-- the cluster of the result has no entry register
abbrev pub with_second_matrix : List PlainCall
with_second_matrix = call_part 0 (three_or_four ∷ three_or_four ∷ []) ∷ []

-- no number is from 5 to 4
abbrev pub five_to_four : PlainBounds
five_to_four = record { size = 1; entries = Some (pos 4) ∷ Some (neg_ℤ (pos 5)) ∷ [] }

abbrev pub with_no_argument : List PlainCall
with_no_argument = call_part 0 (five_to_four ∷ []) ∷ []

abbrev pub descending_writes : List WritePart
descending_writes = write_part 5 ∷ write_part 0 ∷ write_part 7 ∷ []

abbrev pub empty_write : List WritePart
empty_write = record { class = 0; low = pos 1; high = pos 0 } ∷ []

-- a character is at most 127
abbrev pub write_beyond_type : List WritePart
write_beyond_type = record { class = 2; low = pos 0; high = pos 128 } ∷ []

abbrev pub write_to_nothing : List WritePart
write_to_nothing = write_part 10 ∷ []

-- ---- an artifact of the first function, which is called with 0 to 9 and returns 0 to 18

abbrev pub worked_artifact : PlainArtifact
worked_artifact = record {
  changed = false;
  context = Some (zero_to_nine ∷ []);
  result = Some (zero_to_nine ∷ zero_to_eighteen ∷ []);
  calls = [];
  writes = numbers ∷ [];
}

-- of a function that is never called
abbrev pub of_no_call : PlainArtifact
of_no_call = record { changed = false; context = None; result = None; calls = []; writes = [] }

-- ---- one change

-- as if the result were known at the call
abbrev pub context_with_result : PlainArtifact
context_with_result = record worked_artifact { context = Some (zero_to_nine ∷ zero_to_eighteen ∷ []) }

abbrev pub context_beyond_type : PlainArtifact
context_beyond_type = record worked_artifact { context = Some (record { size = 1; entries = Some (pos 2147483648) ∷ Some (pos 0) ∷ [] } ∷ []) }

-- nothing is said of the result
abbrev pub result_of_arguments : PlainArtifact
result_of_arguments = record worked_artifact { result = Some (zero_to_nine ∷ []) }

abbrev pub result_without_bound : PlainArtifact
result_without_bound = record worked_artifact { result = Some (zero_to_nine ∷ record { size = 1; entries = Some (pos 18) ∷ None ∷ [] } ∷ []) }

-- the first function calls no defined one
abbrev pub with_call : PlainArtifact
with_call = record worked_artifact { calls = worked_calls }

abbrev pub with_write_to_nothing : PlainArtifact
with_write_to_nothing = record worked_artifact { writes = write_to_nothing }
