use Rattle.points_to.specs.computed.Readers.{constraint_lists}
use Rattle.points_to.proofs.Lists.{AreReadersOf}
use Rattle.points_to.proofs.readers.readers.Given as goal

abbrev pub invariant-loop-constraint : goal.invariant-loop-constraint
invariant-loop-constraint l = AreReadersOf l.side l.nodes l.all l.constraint-index (constraint_lists l.lists.items)
