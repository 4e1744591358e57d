use Rattle.std.proofs.lemmas.Result.{err_from_is_err_and}
use Rattle.artifact_codec.specs.computed.Windows.{mark_numbers}
use Rattle.artifact_codec.proofs.Marks.{number_missing, number_twice, number_marked, numbers_done}
use Rattle.artifact_codec.proofs.window.mark_numbers.Goals as goal

pub returns-in_err-n : goal.returns-in_err-n
returns-in_err-n c =
    let p = err_from_is_err_and c.from_residual.result c.from_residual.ensures.1 in
    rw p.1 (number_missing c.args.count c.loop.counter c.loop.window c.loop.rest.now (mark_numbers c.args.count c.args.window.now c.args.bytes.now) c.loop-test.true c.in_err-n.ensures c.loop.invariant)

pub returns-in_err-mark : goal.returns-in_err-mark
returns-in_err-mark c =
    let p = err_from_is_err_and c.from_residual-in_err-mark.result c.from_residual-in_err-mark.ensures.1 in
    rw p.1 (number_twice c.args.count c.loop.counter c.loop.window c.loop.rest.now (mark_numbers c.args.count c.args.window.now c.args.bytes.now) c.in_ok-n.n c.in_ok-n.after.now c.loop-test.true c.in_ok-n.ensures c.in_err-mark.ensures c.loop.invariant)

pub loop-preserved : goal.loop-preserved
loop-preserved c = number_marked c.args.count c.loop.counter c.loop.window c.loop.rest.now (mark_numbers c.args.count c.args.window.now c.args.bytes.now) c.in_ok-n.n c.in_ok-n.after.now c.mark.new.window c.loop-test.true c.in_ok-n.ensures c.in_ok-mark.ensures c.loop.invariant

pub returns : goal.returns
returns c = numbers_done c.args.count c.loop.counter c.loop.window c.loop.rest.now (mark_numbers c.args.count c.args.window.now c.args.bytes.now) c.loop-test.false c.loop.invariant
