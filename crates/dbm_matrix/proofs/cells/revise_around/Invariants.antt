use Rattle.dbm_matrix.specs.Bounds.{at}
use Rattle.dbm_matrix.proofs.Written.{AroundRevised}
use Rattle.dbm_matrix.proofs.cells.revise_around.Given as goal

abbrev pub invariant-loop-k : goal.invariant-loop-k
invariant-loop-k g l = AroundRevised (λ r s o. goal.F-post g l.f r s (at l.fn.cells r s) o) l.v l.k l.fn.cells l.cells
