use Rattle.std.proofs.Common.{◌≡◌, ◌-◌, ◌+◌, suc, length, sym, arith, length-drop}
use Rattle.std.proofs.lemmas.Bool.{eqb-true}
use Rattle.c_lexer.specs.Meaning.{is_wrong, is_universal_name}
use Rattle.c_lexer.proofs.Flaws.{ended, one_more, some_left}
use Rattle.c_lexer.proofs.character.flaws_in.Goals as goal

pub returns-then-is_empty-clause-wrong : goal.returns-then-is_empty-clause-wrong
returns-then-is_empty-clause-wrong c = ended is_wrong _ _ _ c.loop-turn.rest.now (eqb-true _ _ (sym c.if-is_empty.ensures)) c.loop-turn.invariant.wrong

pub returns-then-is_empty-clause-universal : goal.returns-then-is_empty-clause-universal
returns-then-is_empty-clause-universal c = ended is_universal_name _ _ _ c.loop-turn.rest.now (eqb-true _ _ (sym c.if-is_empty.ensures)) c.loop-turn.invariant.universal

pub returns-clause-wrong : goal.returns-clause-wrong
returns-clause-wrong c = ended is_wrong _ _ _ c.loop-turn.rest.now (let within = c.loop-turn.invariant.within in omega (arith, within)) c.loop-turn.invariant.wrong

pub returns-clause-universal : goal.returns-clause-universal
returns-clause-universal c = ended is_universal_name _ _ _ c.loop-turn.rest.now (let within = c.loop-turn.invariant.within in omega (arith, within)) c.loop-turn.invariant.universal

pub loop-turn-preserved : goal.loop-turn-preserved
loop-turn-preserved c =
    let rest = c.loop-turn.rest.now in
    let lt = c.loop-turn-test.true in
    let n : length c.args.body.now - c.loop-turn._turn ≡ suc (length c.args.body.now - (c.loop-turn._turn + 1)) = omega (arith, lt) in
    let some = some_left rest c.if-is_empty.ensures in
    let within = c.loop-turn.invariant.within in
    let len = c.character_at-character.ensures.some some in
    let left = length-drop c.character_at-character.result.1 rest in
    let wrong = c.loop-turn.invariant.wrong in
    let universal = c.loop-turn.invariant.universal in
    record {
      within = rw c.behind-rest.ensures (omega (arith, within, len, left, some));
      wrong = rw (c.with_character-found.ensures.wrong, c.behind-rest.ensures, c.character_at-character.ensures.value) (one_more is_wrong _ _ _ rest some (rw n at wrong));
      universal = rw (c.with_character-found.ensures.universal, c.behind-rest.ensures, c.character_at-character.ensures.value) (one_more is_universal_name _ _ _ rest some (rw n at universal));
    }
