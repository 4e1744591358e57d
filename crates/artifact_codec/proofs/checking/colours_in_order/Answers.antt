use Rattle.std.proofs.Common.{None}
use Rattle.std.proofs.lemmas.Result.{err_from_is_err_and}
use Rattle.artifact_codec.specs.computed.Checking.{past_in_order, next_site_colour}
use Rattle.artifact_codec.proofs.Loops.{order_goes_on, order_ends, order_is_done}
use Rattle.artifact_codec.proofs.checking.colours_in_order.Goals as goal

pub returns-in_err-item : goal.returns-in_err-item
returns-in_err-item c =
    let p = err_from_is_err_and c.from_residual.result c.from_residual.ensures.1 in
    rw p.1 (order_ends next_site_colour c.args.count c.loop.counter c.loop.last c.loop.rest.now (past_in_order next_site_colour c.args.count None c.args.bytes.now) c.loop-test.true c.in_err-item.ensures c.loop.invariant)

pub loop-preserved : goal.loop-preserved
loop-preserved c = order_goes_on next_site_colour c.args.count c.loop.counter c.loop.last c.loop.rest.now (past_in_order next_site_colour c.args.count None c.args.bytes.now) c.in_ok-item.item c.in_ok-item.after.now c.loop-test.true c.in_ok-item.ensures c.loop.invariant

pub returns : goal.returns
returns c = order_is_done next_site_colour c.args.count c.loop.counter c.loop.last c.loop.rest.now (past_in_order next_site_colour c.args.count None c.args.bytes.now) c.loop-test.false c.loop.invariant
