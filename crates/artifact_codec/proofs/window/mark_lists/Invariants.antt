use Rattle.std.proofs.Common.{◌≡◌, ◌-◌}
use Rattle.artifact_codec.specs.computed.Windows.{mark_lists}
use Rattle.artifact_codec.proofs.window.mark_lists.Given as goal

abbrev pub invariant-loop : goal.invariant-loop
invariant-loop l = mark_lists (l.count - l.counter) l.window l.rest ≡ mark_lists l.count l.fn.window l.bytes
