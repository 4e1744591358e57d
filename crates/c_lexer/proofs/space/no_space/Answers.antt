use Rattle.std.proofs.Common.{sym, ◌∙◌}
use Rattle.c_lexer.proofs.Turning.{space_stops, space_goes_on, space_ends}
use Rattle.c_lexer.proofs.space.no_space.Goals as goal

pub returns-in-None : goal.returns-in-None
returns-in-None c = sym (space_stops _ _ c.loop-turn.rest.now c.loop-turn-test.true c.in-None.ensures) ∙ c.loop-turn.invariant

pub loop-turn-preserved : goal.loop-turn-preserved
loop-turn-preserved c = sym (space_goes_on _ _ c.loop-turn.rest.now c.in-Some.less.now c.loop-turn-test.true c.in-Some.ensures) ∙ c.loop-turn.invariant

pub returns : goal.returns
returns c = sym (space_ends _ _ c.loop-turn.rest.now c.loop-turn-test.false) ∙ c.loop-turn.invariant
