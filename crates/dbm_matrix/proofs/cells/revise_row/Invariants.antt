use Rattle.dbm_matrix.specs.Bounds.{at}
use Rattle.dbm_matrix.proofs.Written.{RowRevised}
use Rattle.dbm_matrix.proofs.cells.revise_row.Given as goal

abbrev pub invariant-loop-j : goal.invariant-loop-j
invariant-loop-j g l = RowRevised (λ s o. goal.F-post g l.f l.i s (at l.fn.cells l.i s) o) l.i l.j l.fn.cells l.cells
