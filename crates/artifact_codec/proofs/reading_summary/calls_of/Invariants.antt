use Rattle.std.proofs.Common.{map, ◌≡◌, ◌-◌}
use Rattle.core_ir.specs.Plain.{call_of}
use Rattle.artifact_codec.specs.computed.Reading.{items_at, call_at}
use Rattle.artifact_codec.proofs.Loops.{with_front}
use Rattle.artifact_codec.proofs.reading_summary.calls_of.Given as goal

abbrev pub invariant-loop : goal.invariant-loop
invariant-loop l = with_front (map call_of l.calls.items) (items_at call_at (l.count - l.counter) l.rest) ≡ items_at call_at l.count l.bytes
