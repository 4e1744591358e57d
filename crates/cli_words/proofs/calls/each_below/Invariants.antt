use Rattle.std.proofs.Common.{◌≡◌}
use Rattle.cli_words.specs.Settings.{each_below}
use Rattle.cli_words.proofs.calls.each_below.Given as goal

abbrev pub invariant-loop-position : goal.invariant-loop-position
invariant-loop-position l = l.positions.items ≡ each_below l.position
