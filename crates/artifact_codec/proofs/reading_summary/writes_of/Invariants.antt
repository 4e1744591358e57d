use Rattle.std.proofs.Common.{◌≡◌, ◌-◌}
use Rattle.artifact_codec.specs.computed.Reading.{items_at, write_at}
use Rattle.artifact_codec.proofs.Loops.{with_front}
use Rattle.artifact_codec.proofs.reading_summary.writes_of.Given as goal

abbrev pub invariant-loop : goal.invariant-loop
invariant-loop l = with_front l.writes.items (items_at write_at (l.count - l.counter) l.rest) ≡ items_at write_at l.count l.bytes
