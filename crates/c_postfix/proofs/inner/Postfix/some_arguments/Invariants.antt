use Rattle.std.proofs.Common.{◌≡◌, ◌-◌}
use Rattle.c_reads.specs.Postfix.{some_arguments, arguments_from}
use Rattle.c_postfix.proofs.inner.Postfix.some_arguments.Given as goal

abbrev pub invariant-loop-turn : goal.invariant-loop-turn
invariant-loop-turn g l =
    some_arguments (g.S.Inner.inside l.self.depth) (g.S.Inner.argument l.self.depth) l.fn.cursor
    ≡ arguments_from (g.S.Inner.inside l.self.depth) (g.S.Inner.argument l.self.depth) (l._turn-end - l._turn) l.found l.cursor
