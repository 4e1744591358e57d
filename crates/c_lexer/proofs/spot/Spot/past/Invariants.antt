use Rattle.std.proofs.Common.{◌≡◌, ◌-◌, length, drop}
use Rattle.c_lexer.specs.Spots.{IsWithin, past}
use Rattle.c_lexer.proofs.spot.Spot.past.Given as goal

abbrev pub invariant-loop-b : goal.invariant-loop-b
invariant-loop-b l = record {
  far : past l.spot (drop l.b-index l.text) ≡ past l.fn.self l.text;
  within : IsWithin l.spot (length l.text - l.b-index);
}
