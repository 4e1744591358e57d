use Rattle.dbm_matrix.proofs.Written.{Copied}
use Rattle.dbm_matrix.specs.Bounds.{at}
use Rattle.dbm_matrix.proofs.cells.row.Given as goal

abbrev pub invariant-loop-k : goal.invariant-loop-k
invariant-loop-k l = Copied (λ k. at l.cells l.i k) l.k l.bounds
