use Rattle.std.proofs.Common.{◌≡◌, ◌+◌, drop, false}
use Rattle.std.specs.Option.{option_map}
use Rattle.c_lexer.specs.computed.Lengths.{quoted_more}
use Rattle.c_lexer.proofs.shape.quoted_more.Given as goal

abbrev pub invariant-loop-i : goal.invariant-loop-i
invariant-loop-i l = option_map (λ n. l.i + n) (quoted_more l.quote l.escaped (drop l.i l.bytes)) ≡ quoted_more l.quote false l.bytes
