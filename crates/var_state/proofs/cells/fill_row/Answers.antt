use Rattle.std.proofs.Common.{arith}
use mir.Syntax.{w128}
use Rattle.std.proofs.lemmas.Int.{to_z-of_z}
use Rattle.var_state.proofs.Written.{row_filled_next}
use Rattle.var_state.proofs.cells.fill_row.Goals as goal

pub loop-j-preserved : goal.loop-j-preserved
loop-j-preserved g c =
    let e = to_z-of_z w128 c.f-c.result (record { sfits = c.f-c.type_inv }) in
    rw (c.put.ensures.cells, e) (row_filled_next (λ s o. g.F.Fn.post c.args.f.now (c.args.i, (s, tt)) o) c.args.n c.args.i c.loop-j.j c.args.cells.now.items c.loop-j.cells.items c.f-c.result (omega arith) (omega arith) c.loop-j.invariant c.f-c.ensures)
