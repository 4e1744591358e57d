use Rattle.std.proofs.Common.{◌≡◌, ℕ, ◌<◌, Some, slice_get}
use Rattle.core_ir.specs.Plain.{lists_of}
use Rattle.points_to.specs.Families.{Has, family_of}
use Rattle.points_to.specs.computed.RuleParts.{TakesParts}
use Rattle.points_to.proofs.closure.meets_part.Given as goal

abbrev pub invariant-loop-member : goal.invariant-loop-member
invariant-loop-member l = (k x : ℕ) → k < l.member-index → slice_get l.member-items k ≡ Some x → TakesParts l.classes (Has (family_of (lists_of l.sets))) l.number x l.to
