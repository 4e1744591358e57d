use Rattle.std.proofs.Common.{◌≡◌, ◌+◌, drop}
use Rattle.c_lexer.specs.computed.Lengths.{number_more}
use Rattle.c_lexer.proofs.shape.number_more.Given as goal

abbrev pub invariant-loop-i : goal.invariant-loop-i
invariant-loop-i l = l.i + number_more l.last (drop l.i l.bytes) ≡ number_more l.first l.bytes
