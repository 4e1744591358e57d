use Rattle.var_state.proofs.Standing.{IsFilling}
use Rattle.var_state.proofs.closing.add_row.Given as goal

abbrev pub invariant-loop-j : goal.invariant-loop-j
invariant-loop-j l = IsFilling l.n l.m
