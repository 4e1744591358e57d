use Rattle.std.proofs.Common.{◌≡◌, ◌++◌, drop}
use Rattle.var_clusters.specs.Pairs.{argument_pairs}
use Rattle.var_clusters.proofs.pairs.push_argument_pairs.Given as goal

abbrev pub invariant-loop-arg : goal.invariant-loop-arg
invariant-loop-arg l = l.pairs.items ++ argument_pairs l.to (drop l.arg-index l.args) ≡ l.initial.pairs.items ++ argument_pairs l.to l.args
