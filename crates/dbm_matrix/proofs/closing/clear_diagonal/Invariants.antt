use Rattle.dbm_matrix.proofs.Rows.{DiagonalSoFar}
use Rattle.dbm_matrix.proofs.closing.clear_diagonal.Given as goal

abbrev pub invariant-loop-i : goal.invariant-loop-i
invariant-loop-i l = DiagonalSoFar l.i l.fn.cells l.cells
