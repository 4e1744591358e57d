use Rattle.var_state.proofs.Standing.{IsFilling}
use Rattle.var_state.proofs.closing.matrix_of.Given as goal

abbrev pub invariant-loop-i : goal.invariant-loop-i
invariant-loop-i l = IsFilling l.n l.m
