use Rattle.std.proofs.Common.{◌≡◌, ℕ, ◌<◌, length}
use Rattle.dbm_matrix.specs.Bounds.{at}
use Rattle.dbm_matrix.proofs.Closure.{ClosedSoFar, IsNegative}
use Rattle.dbm_matrix.proofs.closing.close.Given as goal

abbrev pub invariant-loop-k : goal.invariant-loop-k
invariant-loop-k l = (length l.cells ≡ 289) × ClosedSoFar l.n l.k (at l.fn.cells) (at l.cells)

abbrev pub invariant-loop-i : goal.invariant-loop-i
invariant-loop-i l = (r : ℕ) → r < l.i → ¬ (IsNegative (at l.cells) r)
