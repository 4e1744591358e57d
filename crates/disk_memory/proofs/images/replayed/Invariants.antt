use Rattle.disk_memory.specs.Calls.{ops_of}
use Rattle.disk_memory.specs.Replay.{IsReplayed}
use Rattle.disk_memory.proofs.images.replayed.Given as goal

abbrev pub invariant-loop-at : goal.invariant-loop-at
invariant-loop-at l = IsReplayed l.first (ops_of l.calls l.store) l.calls l.store l.at l.replay.read.items l.replay.used
