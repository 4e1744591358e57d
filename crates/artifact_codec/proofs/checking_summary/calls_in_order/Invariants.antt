use Rattle.std.proofs.Common.{None, ◌≡◌, ◌-◌}
use Rattle.artifact_codec.specs.computed.Checking.{past_in_order, next_call}
use Rattle.artifact_codec.proofs.checking_summary.calls_in_order.Given as goal

abbrev pub invariant-loop : goal.invariant-loop
invariant-loop l = past_in_order next_call (l.count - l.counter) l.last l.rest ≡ past_in_order next_call l.count None l.bytes
