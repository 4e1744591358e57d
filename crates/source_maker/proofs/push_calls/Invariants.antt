use Rattle.std.proofs.Common.{◌≡◌, ◌++◌}
use Rattle.source_maker.specs.Source.{calls_text}
use Rattle.source_maker.proofs.push_calls.Given as goal

abbrev pub invariant-loop-k : goal.invariant-loop-k
invariant-loop-k l = l.text.items ≡ l.initial.text.items ++ calls_text l.k
