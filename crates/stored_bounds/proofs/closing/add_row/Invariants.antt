use Rattle.stored_bounds.proofs.Filling.{IsFilling}
use Rattle.stored_bounds.proofs.closing.add_row.Given as goal

abbrev pub invariant-loop-j : goal.invariant-loop-j
invariant-loop-j l = IsFilling l.n l.m
