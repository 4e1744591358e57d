use Rattle.dbm_matrix.proofs.Rows.{RowsSoFar}
use Rattle.dbm_matrix.proofs.closing.relax_all.Given as goal

abbrev pub invariant-loop-i : goal.invariant-loop-i
invariant-loop-i l = RowsSoFar l.n l.k l.i l.fn.cells l.cells
