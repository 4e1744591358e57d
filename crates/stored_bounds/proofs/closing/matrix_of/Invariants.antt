use Rattle.stored_bounds.proofs.Filling.{IsFilling}
use Rattle.stored_bounds.proofs.closing.matrix_of.Given as goal

abbrev pub invariant-loop-i : goal.invariant-loop-i
invariant-loop-i l = IsFilling l.n l.m
