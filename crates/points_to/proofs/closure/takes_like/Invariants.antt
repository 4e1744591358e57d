use Rattle.std.proofs.Common.{◌≡◌, ℕ, ◌<◌, Some, slice_get}
use Rattle.core_ir.specs.Plain.{lists_of}
use Rattle.points_to.specs.Families.{Flows, family_of}
use Rattle.points_to.specs.computed.RuleParts.{TakesLeaf}
use Rattle.points_to.proofs.closure.takes_like.Given as goal

abbrev pub invariant-loop-place : goal.invariant-loop-place
invariant-loop-place l = (k target source : ℕ) → k < l.place → slice_get l.targets k ≡ Some target → slice_get l.sources k ≡ Some source → TakesLeaf l.classes (Flows (family_of (lists_of l.sets))) target source
