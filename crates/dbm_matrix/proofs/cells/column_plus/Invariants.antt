use Rattle.dbm_matrix.proofs.Written.{Copied}
use Rattle.dbm_matrix.specs.Bounds.{at}
use Rattle.dbm_matrix.specs.Changes.{plus}
use Rattle.dbm_matrix.proofs.cells.column_plus.Given as goal

abbrev pub invariant-loop-k : goal.invariant-loop-k
invariant-loop-k l = Copied (λ k. plus (at l.cells k l.j) l.c) l.k l.bounds
