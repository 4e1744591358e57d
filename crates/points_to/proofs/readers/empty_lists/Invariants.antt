use Rattle.points_to.specs.computed.Progress.{AreEmpty}
use Rattle.points_to.specs.computed.Readers.{constraint_lists}
use Rattle.points_to.proofs.readers.empty_lists.Given as goal

abbrev pub invariant-loop : goal.invariant-loop
invariant-loop l = AreEmpty l.counter (constraint_lists l.lists.items)
