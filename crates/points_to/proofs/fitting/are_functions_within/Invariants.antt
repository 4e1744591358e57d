use Rattle.std.proofs.Common.{◌≡◌, ℕ, ◌<◌, Some, slice_get}
use Rattle.core_ir.specs.declared.classes.FunctionNodes.{FunctionNodes}
use Rattle.points_to.specs.Fits.{IsFunctionWithin}
use Rattle.points_to.proofs.fitting.are_functions_within.Given as goal

abbrev pub invariant-loop-function : goal.invariant-loop-function
invariant-loop-function l = (k : ℕ) (function : FunctionNodes) → k < l.function-index → slice_get l.functions k ≡ Some function → IsFunctionWithin l.nodes function
