use Rattle.std.proofs.Common.{◌≡◌, ℕ, ◌<◌, Some, slice_get}
use Rattle.core_ir.specs.Plain.{lists_of}
use Rattle.points_to.specs.Families.{Has, family_of}
use Rattle.core_ir.specs.declared.classes.PartClass.{PartClass}
use Rattle.points_to.proofs.closure.takes_parts.Given as goal

abbrev pub invariant-loop-part : goal.invariant-loop-part
invariant-loop-part l = (k : ℕ) (part : PartClass) → k < l.part-index → slice_get l.part-items k ≡ Some part → part.part ≡ l.number → Has (family_of (lists_of l.sets)) l.to part.«class»
