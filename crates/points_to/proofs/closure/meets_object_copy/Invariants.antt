use Rattle.std.proofs.Common.{◌≡◌, ℕ, ◌<◌, Some, [], slice_get, slice_index_or}
use Rattle.core_ir.specs.Plain.{lists_of}
use Rattle.points_to.specs.Families.{Flows, family_of}
use Rattle.points_to.specs.computed.RuleParts.{TakesObjects}
use Rattle.points_to.proofs.closure.meets_object_copy.Given as goal

abbrev pub invariant-loop-member : goal.invariant-loop-member
invariant-loop-member l = (k x : ℕ) → k < l.member-index → slice_get l.member-items k ≡ Some x → TakesObjects l.classes (Flows (family_of (lists_of l.sets))) l.layout x (slice_index_or (lists_of l.sets) l.from [])
