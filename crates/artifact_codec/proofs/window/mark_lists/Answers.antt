use Rattle.std.proofs.lemmas.Result.{err_from_is_err_and}
use Rattle.artifact_codec.specs.computed.Windows.{mark_lists}
use Rattle.artifact_codec.proofs.Marks.{list_missing, list_marked, lists_done}
use Rattle.artifact_codec.proofs.window.mark_lists.Goals as goal

pub returns-in_err-rest : goal.returns-in_err-rest
returns-in_err-rest c =
    let p = err_from_is_err_and c.from_residual.result c.from_residual.ensures.1 in
    rw p.1 (list_missing c.args.count c.loop.counter c.loop.window c.loop.rest.now (mark_lists c.args.count c.args.window.now c.args.bytes.now) c.loop-test.true c.in_err-rest.ensures c.loop.invariant)

pub loop-preserved : goal.loop-preserved
loop-preserved c = list_marked c.args.count c.loop.counter c.loop.window c.loop.rest.now (mark_lists c.args.count c.args.window.now c.args.bytes.now) c.mark_list.new.window c.in_ok-rest.rest.now c.loop-test.true c.in_ok-rest.ensures c.loop.invariant

pub returns : goal.returns
returns c = lists_done c.args.count c.loop.counter c.loop.window c.loop.rest.now (mark_lists c.args.count c.args.window.now c.args.bytes.now) c.loop-test.false c.loop.invariant
