use Rattle.std.proofs.Common.{◌≡◌, ◌-◌}
use Rattle.core_ir.specs.Plain.{all_bounds}
use Rattle.artifact_codec.specs.computed.Reading.{items_at, bounds_at}
use Rattle.artifact_codec.proofs.Loops.{with_front}
use Rattle.artifact_codec.proofs.reading_summary.matrices_of.Given as goal

abbrev pub invariant-loop : goal.invariant-loop
invariant-loop l = with_front (all_bounds l.matrices.items) (items_at bounds_at (l.count - l.counter) l.rest) ≡ items_at bounds_at l.count l.bytes
