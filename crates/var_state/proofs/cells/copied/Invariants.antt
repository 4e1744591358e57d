use Rattle.var_state.proofs.Copying.{CopiedBelow}
use Rattle.var_state.proofs.cells.copied.Given as goal

abbrev pub invariant-loop-k : goal.invariant-loop-k
invariant-loop-k l = CopiedBelow l.k l.cells.items l.copy
