use Rattle.std.proofs.Common.{rules, ◌≡◌, ◌+◌, ◌-◌, true, false, sym, ap, ◌∙◌, arith}
use Rattle.std.proofs.lemmas.Grind.{common_steps}
use Rattle.c_grammar.specs.Terminals as w
use Rattle.c_cursor.specs.Parsers.{on, sees}
use Rattle.c_reads.specs.Postfix.{texts, texts_from}
use Rattle.c_postfix.proofs.Loops.{texts_stop, texts_go, texts_spent}
use Rattle.c_postfix.proofs.Turns.{begun, one_more, no_more}
use Rattle.c_postfix.proofs.primary.texts.Goals as goal

pub loop-turn-init : goal.loop-turn-init
unfolding texts
loop-turn-init c = begun (λ n. texts_from n c.args.bytes c.args.cursor.now) _ _ c.turns-turn-end.ensures

pub returns-then-not-sees_text : goal.returns-then-not-sees_text
returns-then-not-sees_text c =
    let unseen : sees w.text c.loop-turn.cursor ≡ false = first_of (search rules, grind arith) in
    one_more (λ n. texts_from n c.loop-turn.bytes c.loop-turn.cursor) _ c.loop-turn._turn c.loop-turn-test.true c.loop-turn.invariant ∙ texts_stop _ _ _ unseen

pub returns-in_err-token : goal.returns-in_err-token
unfolding texts_from on
returns-in_err-token c =
    let e = one_more (λ n. texts_from n c.loop-turn.bytes c.loop-turn.cursor) _ c.loop-turn._turn c.loop-turn-test.true c.loop-turn.invariant in
    first_of (search rules, grind (arith, common_steps))

pub loop-turn-preserved : goal.loop-turn-preserved
loop-turn-preserved c =
    let seen : sees w.text c.loop-turn.cursor ≡ true = first_of (search rules, grind arith) in
    one_more (λ n. texts_from n c.loop-turn.bytes c.loop-turn.cursor) _ c.loop-turn._turn c.loop-turn-test.true c.loop-turn.invariant
    ∙ texts_go _ _ _ c.take_text.new.self c.in_ok-token.token.now seen c.in_ok-token.ensures.takes
    ∙ ap (λ bytes. texts_from (c.turns-turn-end.result - (c.loop-turn._turn + 1)) bytes c.take_text.new.self) (sym c.in_ok-join.ensures)

pub returns : goal.returns
returns c = λ other. no_more (λ n. texts_from n c.loop-turn.bytes c.loop-turn.cursor) _ c.loop-turn._turn c.loop-turn-test.false c.loop-turn.invariant ∙ texts_spent _ _
