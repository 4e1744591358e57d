use Rattle.std.proofs.Common.{◌≡◌, ℕ, ◌<◌, Some, slice_get}
use Rattle.core_ir.specs.Plain.{lists_of}
use Rattle.points_to.specs.Families.{Flows, family_of}
use Rattle.points_to.specs.computed.RuleParts.{TakesLike}
use Rattle.core_ir.specs.declared.classes.LayoutPart.{LayoutPart}
use Rattle.points_to.proofs.closure.takes_layouts.Given as goal

abbrev pub invariant-loop-target : goal.invariant-loop-target
invariant-loop-target l = (k : ℕ) (part : LayoutPart) → k < l.target-index → slice_get l.targets k ≡ Some part → part.layout ≡ l.layout → TakesLike l.classes (Flows (family_of (lists_of l.sets))) part.leaves.items l.sources
