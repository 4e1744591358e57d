use Rattle.std.proofs.Common.{codes, sym, ◌∙◌}
use Rattle.std.proofs.lemmas.Result.{err_from_is_err_and}
use Rattle.first_form.specs.computed.Reading.{second_is, array_at}
use Rattle.first_form.proofs.Loops.{fails_too, stops, fails, goes_on, runs_out}
use Rattle.first_form.proofs.grammar.arrays.Goals as goal

pub returns-then-second_is : goal.returns-then-second_is
returns-then-second_is c = stops (second_is (codes "main")) array_at c.loop.arrays c.len-end.result c.loop.counter c.loop.cursor _ c.loop.invariant.so_far c.loop-test.true (sym c.second_is.ensures ∙ c.if-second_is.true)

pub returns-in_err-array : goal.returns-in_err-array
returns-in_err-array c =
    let p = err_from_is_err_and c.from_residual.result c.from_residual.ensures.1 in
    rw (p.1, p.2) (fails_too c.in_err-array.field-0.0 (array_at c.loop.cursor) _ (fails (second_is (codes "main")) array_at c.loop.arrays c.len-end.result c.loop.counter c.loop.cursor _ c.loop.invariant.so_far c.loop-test.true (sym c.second_is.ensures ∙ c.if-second_is.false)) c.in_err-array.ensures)

pub loop-preserved : goal.loop-preserved
loop-preserved c = record {
  turns = c.loop.invariant.turns;
  so_far = rw c.in_ok-push.ensures.ok (goes_on (second_is (codes "main")) array_at c.loop.arrays c.len-end.result c.loop.counter c.loop.cursor _ c.loop.invariant.so_far c.loop-test.true (sym c.second_is.ensures ∙ c.if-second_is.false) c.in_ok-array.array c.array.new.cursor c.in_ok-array.ensures);
}

pub returns : goal.returns
returns c = runs_out (second_is (codes "main")) array_at c.loop.arrays c.len-end.result c.loop.counter c.loop.cursor _ c.loop.invariant.so_far c.loop-test.false
