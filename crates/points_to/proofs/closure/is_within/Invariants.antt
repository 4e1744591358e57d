use Rattle.std.proofs.Common.{◌≡◌, ℕ, ◌<◌, Some, true, slice_get}
use Rattle.points_to.specs.Sets.{has}
use Rattle.points_to.proofs.closure.is_within.Given as goal

abbrev pub invariant-loop-number : goal.invariant-loop-number
invariant-loop-number l = (k n : ℕ) → k < l.number-index → slice_get l.numbers k ≡ Some n → has l.others n ≡ true
