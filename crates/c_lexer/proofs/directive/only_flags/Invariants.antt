use Rattle.std.proofs.Common.{◌≡◌, ◌-◌, length}
use Rattle.c_lexer.specs.computed.Settings.{only_flags}
use Rattle.c_lexer.proofs.directive.only_flags.Given as goal

abbrev pub invariant-loop-turn : goal.invariant-loop-turn
invariant-loop-turn l = only_flags (l._turn-end - l._turn) l.rest ≡ only_flags (length l.fn.text) l.fn.text
