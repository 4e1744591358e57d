use Rattle.std.proofs.Common.{rules, ◌≡◌, ◌+◌, ◌-◌, List, [], ◌∷◌, ◌++◌, true, false, sym, ap, ◌∙◌, arith}
use Rattle.std.proofs.lemmas.Grind.{common_steps}
use Rattle.c_tree.specs.declared.expression.Expr.{Expr}
use Rattle.c_grammar.specs.Marks as m
use Rattle.c_grammar.specs.Terminals as w
use Rattle.c_cursor.specs.Parsers.{on, sees}
use Rattle.c_reads.specs.Postfix.{some_arguments, arguments_from}
use Rattle.c_postfix.proofs.Loops.{some_begin, arguments_stop, arguments_go, arguments_spent}
use Rattle.c_postfix.proofs.Turns.{begun, one_more, no_more}
use Rattle.c_postfix.proofs.inner.Postfix.some_arguments.Goals as goal

pub returns-in_err-first : goal.returns-in_err-first
unfolding some_arguments
returns-in_err-first g c = first_of (search rules, grind (arith, common_steps))

pub loop-turn-init : goal.loop-turn-init
loop-turn-init g c =
    let one : c.push.new.self ≡ c.in_ok-first.first ∷ [] = c.in_ok-push.ensures.ok ∙ ap (λ (found : List Expr). found ++ c.in_ok-first.first ∷ []) c.new-found.ensures in
    some_begin (g.S.Inner.inside c.args.self.now.depth) (g.S.Inner.argument c.args.self.now.depth) _ c.one_argument.new.cursor c.in_ok-first.first c.in_ok-first.ensures
    ∙ begun (λ n. arguments_from (g.S.Inner.inside c.args.self.now.depth) (g.S.Inner.argument c.args.self.now.depth) n (c.in_ok-first.first ∷ []) c.one_argument.new.cursor) _ _ c.turns-turn-end.ensures
    ∙ ap (λ found. arguments_from (g.S.Inner.inside c.args.self.now.depth) (g.S.Inner.argument c.args.self.now.depth) (c.turns-turn-end.result - 0) found c.one_argument.new.cursor) (sym one)

pub returns-then-not-sees_mark : goal.returns-then-not-sees_mark
returns-then-not-sees_mark g c =
    let unseen : sees (w.mark m.comma) c.loop-turn.cursor ≡ false = first_of (search rules, grind arith) in
    one_more (λ n. arguments_from (g.S.Inner.inside c.args.self.now.depth) (g.S.Inner.argument c.args.self.now.depth) n c.loop-turn.found c.loop-turn.cursor) _ c.loop-turn._turn c.loop-turn-test.true c.loop-turn.invariant ∙ arguments_stop (g.S.Inner.inside c.args.self.now.depth) (g.S.Inner.argument c.args.self.now.depth) _ _ _ unseen

pub returns-in_err-take_mark : goal.returns-in_err-take_mark
unfolding arguments_from on
returns-in_err-take_mark g c =
    let e = one_more (λ n. arguments_from (g.S.Inner.inside c.args.self.now.depth) (g.S.Inner.argument c.args.self.now.depth) n c.loop-turn.found c.loop-turn.cursor) _ c.loop-turn._turn c.loop-turn-test.true c.loop-turn.invariant in
    first_of (search rules, grind (arith, common_steps))

pub returns-in_err-argument : goal.returns-in_err-argument
unfolding arguments_from on
returns-in_err-argument g c =
    let e = one_more (λ n. arguments_from (g.S.Inner.inside c.args.self.now.depth) (g.S.Inner.argument c.args.self.now.depth) n c.loop-turn.found c.loop-turn.cursor) _ c.loop-turn._turn c.loop-turn-test.true c.loop-turn.invariant in
    first_of (search rules, grind (arith, common_steps))

pub loop-turn-preserved : goal.loop-turn-preserved
loop-turn-preserved g c =
    let seen : sees (w.mark m.comma) c.loop-turn.cursor ≡ true = first_of (search rules, grind arith) in
    one_more (λ n. arguments_from (g.S.Inner.inside c.args.self.now.depth) (g.S.Inner.argument c.args.self.now.depth) n c.loop-turn.found c.loop-turn.cursor) _ c.loop-turn._turn c.loop-turn-test.true c.loop-turn.invariant
    ∙ arguments_go (g.S.Inner.inside c.args.self.now.depth) (g.S.Inner.argument c.args.self.now.depth) _ _ _ c.take_mark.new.self c.one_argument-in-loop-turn.new.cursor c.in_ok-take_mark.field-0.now c.in_ok-argument.argument seen c.in_ok-take_mark.ensures.takes c.in_ok-argument.ensures
    ∙ ap (λ found. arguments_from (g.S.Inner.inside c.args.self.now.depth) (g.S.Inner.argument c.args.self.now.depth) (c.turns-turn-end.result - (c.loop-turn._turn + 1)) found c.one_argument-in-loop-turn.new.cursor) (sym c.in_ok-push-2.ensures.ok)

pub returns : goal.returns
returns g c = λ other. no_more (λ n. arguments_from (g.S.Inner.inside c.args.self.now.depth) (g.S.Inner.argument c.args.self.now.depth) n c.loop-turn.found c.loop-turn.cursor) _ c.loop-turn._turn c.loop-turn-test.false c.loop-turn.invariant ∙ arguments_spent (g.S.Inner.inside c.args.self.now.depth) (g.S.Inner.argument c.args.self.now.depth) _ _
