use Rattle.std.proofs.Common.{◌≡◌, ◌+◌, drop}
use Rattle.std.specs.Option.{option_map}
use Rattle.c_lexer.specs.computed.Settings.{close_len}
use Rattle.c_lexer.proofs.space.close_len.Given as goal

abbrev pub invariant-loop-i : goal.invariant-loop-i
invariant-loop-i l = option_map (λ n. l.i + n) (close_len (drop l.i l.inside)) ≡ close_len l.inside
