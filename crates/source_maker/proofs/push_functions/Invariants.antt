use Rattle.std.proofs.Common.{◌≡◌, ◌++◌}
use Rattle.source_maker.specs.Source.{functions_text, draw_after}
use Rattle.source_maker.proofs.push_functions.Given as goal

abbrev pub invariant-loop-k : goal.invariant-loop-k
invariant-loop-k l = record {
  drawn : l.draw ≡ draw_after l.number l.k;
  so_far : l.text.items ≡ l.initial.text.items ++ functions_text l.number l.k;
}
