use Rattle.std.proofs.Common.{◌≡◌, drop}
use Rattle.c_lexer.specs.Constants.{first_holding}
use Rattle.c_lexer.proofs.constant.first_holding.Given as goal

abbrev pub invariant-loop-kind : goal.invariant-loop-kind
invariant-loop-kind l = first_holding l.value l.types ≡ first_holding l.value (drop l.kind-index l.types)
