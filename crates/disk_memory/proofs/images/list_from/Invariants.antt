use Rattle.std.proofs.Common.{◌≡◌, [], ◌∷◌, drop}
use Rattle.disk_memory.specs.Calls.{ops_of}
use Rattle.disk_memory.specs.Listed.{listed_by}
use Rattle.disk_memory.specs.Replay.{contents, IsReplayed}
use Rattle.disk_memory.proofs.images.list_from.Given as goal

abbrev pub invariant-loop-at : goal.invariant-loop-at
invariant-loop-at l = record {
  replayed : IsReplayed l.fn.replay.read.items (ops_of l.calls (drop l.fn.replay.used l.store)) l.calls l.store l.at l.replay.read.items l.replay.used;
  listed : listed_by l.replay.read.items (contents l.images.items) (drop l.at (ops_of l.calls (drop l.fn.replay.used l.store))) ≡ listed_by l.fn.replay.read.items (l.fn.replay.read.items ∷ []) (ops_of l.calls (drop l.fn.replay.used l.store));
}
