use Rattle.std.proofs.Common.{rules, ◌≡◌, true, false, ◌∙◌, arith}
use Rattle.std.proofs.lemmas.Grind.{common_steps}
use Rattle.c_cursor.specs.Parsers.{on, sees}
use Rattle.c_kinds.specs.PostfixMarks.{begins_operator}
use Rattle.c_reads.specs.Postfix.{operators, operators_from}
use Rattle.c_postfix.proofs.Loops.{operators_stop, operators_go, operators_spent}
use Rattle.c_postfix.proofs.Turns.{begun, one_more, no_more}
use Rattle.c_postfix.proofs.inner.Postfix.operators.Goals as goal

pub loop-turn-init : goal.loop-turn-init
unfolding operators
loop-turn-init g c =
    begun (λ n. operators_from (g.S.Inner.inside c.args.self.now.depth) (g.S.Inner.argument c.args.self.now.depth) n c.args.left c.args.cursor.now) _ _ c.turns-turn-end.ensures

pub returns-then-not-sees_operator : goal.returns-then-not-sees_operator
returns-then-not-sees_operator g c =
    let unseen : sees begins_operator c.loop-turn.cursor ≡ false = first_of (search rules, grind arith) in
    one_more (λ n. operators_from (g.S.Inner.inside c.args.self.now.depth) (g.S.Inner.argument c.args.self.now.depth) n c.loop-turn.left c.loop-turn.cursor) _ c.loop-turn._turn c.loop-turn-test.true c.loop-turn.invariant
    ∙ operators_stop _ _ _ _ _ unseen

pub returns-in_err-left : goal.returns-in_err-left
unfolding operators_from on
returns-in_err-left g c =
    let e = one_more (λ n. operators_from (g.S.Inner.inside c.args.self.now.depth) (g.S.Inner.argument c.args.self.now.depth) n c.loop-turn.left c.loop-turn.cursor) _ c.loop-turn._turn c.loop-turn-test.true c.loop-turn.invariant in
    first_of (search rules, grind (arith, common_steps))

pub loop-turn-preserved : goal.loop-turn-preserved
loop-turn-preserved g c =
    let seen : sees begins_operator c.loop-turn.cursor ≡ true = first_of (search rules, grind arith) in
    one_more (λ n. operators_from (g.S.Inner.inside c.args.self.now.depth) (g.S.Inner.argument c.args.self.now.depth) n c.loop-turn.left c.loop-turn.cursor) _ c.loop-turn._turn c.loop-turn-test.true c.loop-turn.invariant
    ∙ operators_go _ _ _ _ c.in_ok-left.left _ c.operator.new.cursor seen c.in_ok-left.ensures

pub returns : goal.returns
returns g c =
    λ other. no_more (λ n. operators_from (g.S.Inner.inside c.args.self.now.depth) (g.S.Inner.argument c.args.self.now.depth) n c.loop-turn.left c.loop-turn.cursor) _ c.loop-turn._turn c.loop-turn-test.false c.loop-turn.invariant
    ∙ operators_spent _ _ _ _
