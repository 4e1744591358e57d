use Rattle.var_state.proofs.Written.{Filled}
use Rattle.var_state.proofs.cells.fill.Given as goal

abbrev pub invariant-loop-i : goal.invariant-loop-i
invariant-loop-i g l = Filled (λ r s o. goal.F-post g l.f r s o) l.n l.i l.cells.items
