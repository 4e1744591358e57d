use Rattle.std.proofs.Common.{◌≡◌, ◌-◌}
use Rattle.c_lexer.specs.computed.Settings.{behind_space, no_space}
use Rattle.c_lexer.proofs.space.no_space.Given as goal

abbrev pub invariant-loop-turn : goal.invariant-loop-turn
invariant-loop-turn l = behind_space (l._turn-end - l._turn) l.rest ≡ no_space l.fn.text
