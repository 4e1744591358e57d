use Rattle.dbm_matrix.specs.Bounds.{at}
use Rattle.dbm_matrix.proofs.Written.{Revised}
use Rattle.dbm_matrix.proofs.cells.revise.Given as goal

abbrev pub invariant-loop-i : goal.invariant-loop-i
invariant-loop-i g l = Revised (λ r s o. goal.F-post g l.f r s (at l.fn.cells r s) o) l.n l.i l.fn.cells l.cells
