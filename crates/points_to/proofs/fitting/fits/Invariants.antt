use Rattle.std.proofs.Common.{◌≡◌, ℕ, ◌<◌, Some, slice_get}
use Rattle.core_ir.specs.declared.artifacts.Constraint.{Constraint}
use Rattle.points_to.specs.Fits.{IsConstraintWithin}
use Rattle.points_to.proofs.fitting.fits.Given as goal

abbrev pub invariant-loop-constraint : goal.invariant-loop-constraint
invariant-loop-constraint l = (k : ℕ) (c : Constraint) → k < l.constraint-index → slice_get l.all k ≡ Some c → IsConstraintWithin l.nodes l.classes c
