use Rattle.std.proofs.Common.{arith}
use Rattle.var_state.proofs.Written.{filled_next}
use Rattle.var_state.proofs.cells.fill.Goals as goal

pub loop-i-preserved : goal.loop-i-preserved
loop-i-preserved g c =
    filled_next (λ r s o. g.F.Fn.post c.args.f.now (r, (s, tt)) o) c.args.n c.loop-i.i c.loop-i.cells.items c.fill_row.new.cells.items (omega arith) c.loop-i.invariant c.fill_row.ensures.len c.fill_row.ensures.row c.fill_row.ensures.others
