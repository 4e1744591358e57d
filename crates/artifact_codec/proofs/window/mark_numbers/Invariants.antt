use Rattle.std.proofs.Common.{◌≡◌, ◌-◌}
use Rattle.artifact_codec.specs.computed.Windows.{mark_numbers}
use Rattle.artifact_codec.proofs.window.mark_numbers.Given as goal

abbrev pub invariant-loop : goal.invariant-loop
invariant-loop l = mark_numbers (l.count - l.counter) l.window l.rest ≡ mark_numbers l.count l.fn.window l.bytes
