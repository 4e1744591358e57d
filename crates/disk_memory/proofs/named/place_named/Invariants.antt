use Rattle.disk_memory.proofs.Places.{Searches}
use Rattle.disk_memory.proofs.named.place_named.Given as goal

abbrev pub invariant-loop-at : goal.invariant-loop-at
invariant-loop-at g l = Searches l.list l.name l.at
