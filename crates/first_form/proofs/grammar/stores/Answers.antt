use Rattle.std.proofs.Common.{codes, sym, ◌∙◌}
use Rattle.std.proofs.lemmas.Result.{err_from_is_err_and}
use Rattle.first_form.specs.computed.Reading.{first_is, store_at}
use Rattle.first_form.proofs.Loops.{fails_too, stops, fails, goes_on, runs_out}
use Rattle.first_form.proofs.grammar.stores.Goals as goal

pub returns-then-first_is : goal.returns-then-first_is
returns-then-first_is c = stops (first_is (codes "return")) (store_at c.args.names.now) c.loop.stores c.len-end.result c.loop.counter c.loop.cursor _ c.loop.invariant.so_far c.loop-test.true (sym c.first_is.ensures ∙ c.if-first_is.true)

pub returns-in_err-store : goal.returns-in_err-store
returns-in_err-store c =
    let p = err_from_is_err_and c.from_residual.result c.from_residual.ensures.1 in
    rw (p.1, p.2) (fails_too c.in_err-store.field-0.0 ((store_at c.args.names.now) c.loop.cursor) _ (fails (first_is (codes "return")) (store_at c.args.names.now) c.loop.stores c.len-end.result c.loop.counter c.loop.cursor _ c.loop.invariant.so_far c.loop-test.true (sym c.first_is.ensures ∙ c.if-first_is.false)) c.in_err-store.ensures)

pub loop-preserved : goal.loop-preserved
loop-preserved c = record {
  turns = c.loop.invariant.turns;
  so_far = rw c.in_ok-push.ensures.ok (goes_on (first_is (codes "return")) (store_at c.args.names.now) c.loop.stores c.len-end.result c.loop.counter c.loop.cursor _ c.loop.invariant.so_far c.loop-test.true (sym c.first_is.ensures ∙ c.if-first_is.false) c.in_ok-store.store c.store.new.cursor c.in_ok-store.ensures);
}

pub returns : goal.returns
returns c = runs_out (first_is (codes "return")) (store_at c.args.names.now) c.loop.stores c.len-end.result c.loop.counter c.loop.cursor _ c.loop.invariant.so_far c.loop-test.false
