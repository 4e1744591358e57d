use Rattle.std.proofs.Common.{◌≡◌, ◌-◌}
use Rattle.artifact_codec.specs.computed.Checking.{past_all, entry_past}
use Rattle.artifact_codec.proofs.checking_summary.past_entries.Given as goal

abbrev pub invariant-loop : goal.invariant-loop
invariant-loop l = past_all entry_past (l.count - l.counter) l.rest ≡ past_all entry_past l.count l.bytes
