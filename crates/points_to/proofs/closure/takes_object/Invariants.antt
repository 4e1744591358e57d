use Rattle.std.proofs.Common.{◌≡◌, ℕ, ◌<◌, Some, slice_get}
use Rattle.core_ir.specs.Plain.{lists_of}
use Rattle.points_to.specs.Families.{Flows, family_of}
use Rattle.points_to.specs.computed.RuleParts.{TakesLayouts}
use Rattle.core_ir.specs.declared.classes.LayoutPart.{LayoutPart}
use Rattle.points_to.proofs.closure.takes_object.Given as goal

abbrev pub invariant-loop-part : goal.invariant-loop-part
invariant-loop-part l = (k : ℕ) (part : LayoutPart) → k < l.part-index → slice_get l.part-items k ≡ Some part → part.layout ≡ l.layout → TakesLayouts l.classes (Flows (family_of (lists_of l.sets))) l.layout l.targets part.leaves.items
