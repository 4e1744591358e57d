use Rattle.std.proofs.lemmas.Result.{err_from_is_err_and}
use Rattle.artifact_codec.specs.declared.refusal.Refusal.TheVariants as refusals
use Rattle.artifact_codec.specs.computed.Reading.{items_at, entry_at}
use Rattle.artifact_codec.proofs.Loops.{goes_on, ends, is_done}
use Rattle.artifact_codec.proofs.reading_summary.entries_of.Goals as goal

pub returns-in_err-item : goal.returns-in_err-item
returns-in_err-item c =
    let p = err_from_is_err_and c.from_residual.result c.from_residual.ensures.1 in
    rw (p.1, p.2) (ends entry_at c.loop.entries.items c.args.count c.loop.counter c.loop.rest.now (items_at entry_at c.args.count c.args.bytes.now) refusals.Malformed c.loop-test.true c.in_err-item.ensures c.loop.invariant)

pub loop-preserved : goal.loop-preserved
loop-preserved c =
    rw c.in_ok-push.ensures.items (goes_on entry_at c.loop.entries.items c.args.count c.loop.counter c.loop.rest.now (items_at entry_at c.args.count c.args.bytes.now) c.in_ok-item.item c.in_ok-item.after.now c.loop-test.true c.in_ok-item.ensures c.loop.invariant)

pub returns : goal.returns
returns c = is_done entry_at c.loop.entries.items c.args.count c.loop.counter c.loop.rest.now (items_at entry_at c.args.count c.args.bytes.now) c.loop-test.false c.loop.invariant
