use Rattle.dbm_matrix.proofs.Rows.{RowSoFar}
use Rattle.dbm_matrix.proofs.closing.relax_row.Given as goal

abbrev pub invariant-loop-j : goal.invariant-loop-j
invariant-loop-j l = RowSoFar l.k l.i l.j l.fn.cells l.cells
