use Rattle.std.proofs.lemmas.Result.{err_from_is_err_and}
use Rattle.artifact_codec.specs.computed.Checking.{past_all, bounds_past}
use Rattle.artifact_codec.proofs.Loops.{all_goes_on, all_ends, all_is_done}
use Rattle.artifact_codec.proofs.checking_summary.past_matrices.Goals as goal

pub returns-in_err-rest : goal.returns-in_err-rest
returns-in_err-rest c =
    let p = err_from_is_err_and c.from_residual.result c.from_residual.ensures.1 in
    rw p.1 (all_ends bounds_past c.args.count c.loop.counter c.loop.rest.now (past_all bounds_past c.args.count c.args.bytes.now) c.loop-test.true c.in_err-rest.ensures c.loop.invariant)

pub loop-preserved : goal.loop-preserved
loop-preserved c = all_goes_on bounds_past c.args.count c.loop.counter c.loop.rest.now (past_all bounds_past c.args.count c.args.bytes.now) c.in_ok-rest.rest.now c.loop-test.true c.in_ok-rest.ensures c.loop.invariant

pub returns : goal.returns
returns c = all_is_done bounds_past c.args.count c.loop.counter c.loop.rest.now (past_all bounds_past c.args.count c.args.bytes.now) c.loop-test.false c.loop.invariant
