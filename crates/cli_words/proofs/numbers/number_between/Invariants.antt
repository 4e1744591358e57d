use Rattle.std.proofs.Common.{◌≡◌, ◌≤◌, drop}
use Rattle.cli_words.specs.Numbers.{value_after}
use Rattle.cli_words.proofs.numbers.number_between.Given as goal

abbrev pub invariant-loop-digit : goal.invariant-loop-digit
invariant-loop-digit l = record {
  in_range : l.value ≤ l.high;
  so_far : value_after l.value (drop l.digit-index l.text) ≡ value_after 0 l.text;
}
