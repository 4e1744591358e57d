use Rattle.std.proofs.Common.{arith}
use Rattle.dbm_matrix.proofs.Rows.{row_next}
use Rattle.dbm_matrix.proofs.closing.relax_row.Goals as goal

pub loop-j-preserved : goal.loop-j-preserved
loop-j-preserved c = rw c.relax.ensures.cells (row_next c.args.cells.now c.loop-j.cells c.args.k c.args.i c.loop-j.j c.get-first.result (omega arith) (omega arith) (omega arith) c.get-first.ensures.value c.loop-j.invariant)
