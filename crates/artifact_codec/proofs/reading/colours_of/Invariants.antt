use Rattle.std.proofs.Common.{◌≡◌, ◌-◌}
use Rattle.artifact_codec.specs.computed.Reading.{items_at, site_colour_at}
use Rattle.artifact_codec.proofs.Loops.{with_front}
use Rattle.artifact_codec.proofs.reading.colours_of.Given as goal

abbrev pub invariant-loop : goal.invariant-loop
invariant-loop l = with_front l.colours.items (items_at site_colour_at (l.count - l.counter) l.rest) ≡ items_at site_colour_at l.count l.bytes
