use Rattle.std.proofs.Common.{◌≡◌, ◌-◌}
use Rattle.artifact_codec.specs.computed.Checking.{past_in_order, next_number}
use Rattle.artifact_codec.proofs.checking.numbers_in_order.Given as goal

abbrev pub invariant-loop : goal.invariant-loop
invariant-loop l = past_in_order next_number (l.count - l.counter) l.last l.rest ≡ past_in_order next_number l.count l.fn.above l.bytes
