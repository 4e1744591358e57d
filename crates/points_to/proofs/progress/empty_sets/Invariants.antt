use Rattle.points_to.specs.computed.Progress.{AreEmpty}
use Rattle.points_to.proofs.progress.empty_sets.Given as goal

abbrev pub invariant-loop : goal.invariant-loop
invariant-loop l = AreEmpty l.counter l.sets.items
