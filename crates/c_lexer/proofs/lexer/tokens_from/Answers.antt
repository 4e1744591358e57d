use Rattle.std.proofs.Common.{arith}
use Rattle.c_lexer.proofs.Whole.{ended, refused, goes_on, turn_goes, extends_on, empty_is, some_is, none_left}
use Rattle.c_lexer.proofs.lexer.tokens_from.Goals as goal

pub returns-in-Ok-clause-gives : goal.returns-in-Ok-clause-gives
returns-in-Ok-clause-gives c =
    ended _ c.loop-turn.list c.in-Ok.all _ c.loop-turn.names c.loop-turn.spot c.loop-turn.rest.now c.loop-turn.invariant.so_far (empty_is c.loop-turn.rest.now c.if-is_empty.ensures) c.in-Ok.ensures

pub returns-in-Err-turn-clause-refuses : goal.returns-in-Err-turn-clause-refuses
returns-in-Err-turn-clause-refuses c =
    refused _ c.loop-turn.list _ _ c.loop-turn.names _ c.loop-turn.spot c.loop-turn.rest.now c.in-Err-turn.refusal c.loop-turn.invariant.so_far c.loop-turn-test.true
    (some_is c.loop-turn.rest.now c.if-is_empty.ensures) c.in-Err-turn.ensures.kept c.in-Err-turn.ensures.refuses

pub returns-in-Err-push_some-clause-kept : goal.returns-in-Err-push_some-clause-kept
returns-in-Err-push_some-clause-kept c =
    extends_on _ _ _ c.loop-turn.invariant.kept
    (turn_goes c.loop-turn.names c.loop-turn.spot c.loop-turn.rest.now _ (some_is c.loop-turn.rest.now c.if-is_empty.ensures) c.in-Ok-turn.ensures.gives).extends

pub loop-turn-preserved : goal.loop-turn-preserved
loop-turn-preserved c =
    let some = some_is c.loop-turn.rest.now c.if-is_empty.ensures in
    let goes = turn_goes c.loop-turn.names c.loop-turn.spot c.loop-turn.rest.now _ some c.in-Ok-turn.ensures.gives in
    let shorter = goes.shorter in
    let left = c.loop-turn.invariant.left in
    record {
      so_far = goes_on _ c.loop-turn.list c.push_some.new.list _ _ c.loop-turn.names c.loop-turn.spot c.loop-turn.rest.now _ c.loop-turn.invariant.so_far c.loop-turn-test.true some
          c.in-Ok-turn.ensures.gives c.in-Ok-push_some.ensures;
      left = omega (arith, shorter, left);
      within = goes.within c.loop-turn.invariant.within;
      kept = extends_on _ _ _ c.loop-turn.invariant.kept goes.extends;
    }

pub returns-in-Ok-ended-clause-gives : goal.returns-in-Ok-ended-clause-gives
returns-in-Ok-ended-clause-gives c =
    ended _ c.loop-turn.list c.in-Ok-ended.all _ c.loop-turn.names c.loop-turn.spot c.loop-turn.rest.now c.loop-turn.invariant.so_far
    (none_left c.loop-turn.rest.now _ _ c.loop-turn.invariant.left c.loop-turn-test.false) c.in-Ok-ended.ensures
