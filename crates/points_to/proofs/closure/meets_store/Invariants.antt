use Rattle.std.proofs.Common.{◌≡◌, ℕ, ◌<◌, Some, slice_get}
use Rattle.core_ir.specs.Plain.{lists_of}
use Rattle.points_to.specs.Families.{Flows, family_of}
use Rattle.points_to.specs.computed.RuleParts.{GivesLeaves}
use Rattle.points_to.proofs.closure.meets_store.Given as goal

abbrev pub invariant-loop-member : goal.invariant-loop-member
invariant-loop-member l = (k x : ℕ) → k < l.member-index → slice_get l.member-items k ≡ Some x → GivesLeaves l.classes (Flows (family_of (lists_of l.sets))) l.from x
