use Rattle.std.proofs.Common.{◌≤◌}
use Rattle.disk_memory.specs.Replay.{IsSettled}
use Rattle.disk_memory.proofs.images.calls_until_sync.Given as goal

abbrev pub invariant-loop-at : goal.invariant-loop-at
invariant-loop-at l = record {
  within : l.until ≤ l.at;
  settled : IsSettled l.calls l.until;
}
