use Rattle.std.proofs.Common.{◌≡◌, ◌-◌}
use Rattle.c_reads.specs.Postfix.{operators, operators_from}
use Rattle.c_postfix.proofs.inner.Postfix.operators.Given as goal

abbrev pub invariant-loop-turn : goal.invariant-loop-turn
invariant-loop-turn g l =
    operators (g.S.Inner.inside l.self.depth) (g.S.Inner.argument l.self.depth) l.fn.left l.fn.cursor
    ≡ operators_from (g.S.Inner.inside l.self.depth) (g.S.Inner.argument l.self.depth) (l._turn-end - l._turn) l.left l.cursor
