use Rattle.std.proofs.Common.{◌≡◌, ◌-◌}
use Rattle.artifact_codec.specs.computed.Reading.{items_at, constraint_at}
use Rattle.artifact_codec.proofs.Loops.{with_front}
use Rattle.artifact_codec.proofs.reading.constraints_of.Given as goal

abbrev pub invariant-loop : goal.invariant-loop
invariant-loop l = with_front l.constraints.items (items_at constraint_at (l.count - l.counter) l.rest) ≡ items_at constraint_at l.count l.bytes
