use Rattle.std.proofs.Common.{◌≡◌, ◌-◌}
use Rattle.core_ir.specs.Plain.{lists_of}
use Rattle.artifact_codec.specs.computed.Reading.{items_at, numbers_at}
use Rattle.artifact_codec.proofs.Loops.{with_front}
use Rattle.artifact_codec.proofs.reading.lists_of.Given as goal

abbrev pub invariant-loop : goal.invariant-loop
invariant-loop l = with_front (lists_of l.lists.items) (items_at numbers_at (l.count - l.counter) l.rest) ≡ items_at numbers_at l.count l.bytes
