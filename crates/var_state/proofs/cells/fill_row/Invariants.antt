use Rattle.var_state.proofs.Written.{RowFilled}
use Rattle.var_state.proofs.cells.fill_row.Given as goal

abbrev pub invariant-loop-j : goal.invariant-loop-j
invariant-loop-j g l = RowFilled (λ s o. goal.F-post g l.f l.i s o) l.n l.i l.j l.fn.cells.items l.cells.items
