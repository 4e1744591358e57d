use Rattle.std.proofs.Common.{◌≡◌, ℕ, ◌<◌, Some, slice_get}
use Rattle.core_ir.specs.Plain.{lists_of}
use Rattle.points_to.specs.Families.{Flows, family_of}
use Rattle.points_to.specs.computed.RuleParts.{TakesObject}
use Rattle.points_to.proofs.closure.takes_objects.Given as goal

abbrev pub invariant-loop-source : goal.invariant-loop-source
invariant-loop-source l = (k y : ℕ) → k < l.source-index → slice_get l.sources k ≡ Some y → TakesObject l.classes (Flows (family_of (lists_of l.sets))) l.layout l.target y
