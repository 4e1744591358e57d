use Rattle.std.proofs.Common.{◌≡◌, ℕ, ◌<◌, Some, slice_get}
use Rattle.core_ir.specs.Plain.{lists_of}
use Rattle.points_to.specs.Families.{family_of}
use Rattle.points_to.specs.Rules.{Meets}
use Rattle.core_ir.specs.declared.artifacts.Constraint.{Constraint}
use Rattle.points_to.proofs.closure.meets_each.Given as goal

abbrev pub invariant-loop-constraint : goal.invariant-loop-constraint
invariant-loop-constraint l = (k : ℕ) (c : Constraint) → k < l.constraint-index → slice_get l.all k ≡ Some c → Meets l.classes (family_of (lists_of l.sets)) c
