use Rattle.std.proofs.Common.{arith, ◌^◌}
use Rattle.dbm_matrix.proofs.Rows.{rows_next, so_far_within}
use Rattle.dbm_matrix.proofs.closing.relax_all.Goals as goal

pub relax_row-requires-clause-within : goal.relax_row-requires-clause-within
relax_row-requires-clause-within c = so_far_within (2 ^ 119) c.args.n c.args.k c.loop-i.i c.args.cells.now c.loop-i.cells (omega arith) (omega arith) c.requires.within c.loop-i.invariant

pub loop-i-preserved : goal.loop-i-preserved
loop-i-preserved c = rows_next c.args.cells.now c.loop-i.cells c.relax_row.new.cells c.args.n c.args.k c.loop-i.i (omega arith) (omega arith) (omega arith) c.requires.here c.loop-i.invariant c.relax_row.ensures.len c.relax_row.ensures.row c.relax_row.ensures.others
