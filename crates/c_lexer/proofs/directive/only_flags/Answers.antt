use Rattle.std.proofs.Common.{sym, ◌∙◌}
use Rattle.c_lexer.proofs.Turning.{flags_end, flags_stop, flags_go_on, flags_done}
use Rattle.c_lexer.proofs.directive.only_flags.Goals as goal

pub returns-then-only_space : goal.returns-then-only_space
returns-then-only_space c = sym (flags_end _ _ c.loop-turn.rest.now c.loop-turn-test.true (sym c.if-only_space.ensures)) ∙ c.loop-turn.invariant

pub returns-in-None : goal.returns-in-None
returns-in-None c = sym (flags_stop _ _ c.loop-turn.rest.now c.loop-turn-test.true (sym c.if-only_space.ensures) c.in-None.ensures) ∙ c.loop-turn.invariant

pub loop-turn-preserved : goal.loop-turn-preserved
loop-turn-preserved c = sym (flags_go_on _ _ c.loop-turn.rest.now c.in-Some.less.now c.loop-turn-test.true (sym c.if-only_space.ensures) c.in-Some.ensures) ∙ c.loop-turn.invariant

pub returns : goal.returns
returns c = c.only_space-2.ensures ∙ sym (flags_done _ _ c.loop-turn.rest.now c.loop-turn-test.false) ∙ c.loop-turn.invariant
