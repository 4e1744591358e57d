use Rattle.std.proofs.Common.{map, ◌≡◌, ◌++◌, ◌∷◌, []}
use Rattle.std.proofs.lemmas.Result.{err_from_is_err_and}
use Rattle.std.proofs.lemmas.List.{map_push}
use Rattle.core_ir.specs.Plain.{call_of}
use Rattle.artifact_codec.specs.computed.Reading.{items_at, call_at}
use Rattle.artifact_codec.proofs.Loops.{goes_on, ends, is_done}
use Rattle.artifact_codec.proofs.reading_summary.calls_of.Goals as goal

pub returns-in_err-item : goal.returns-in_err-item
returns-in_err-item c =
    let p = err_from_is_err_and c.from_residual.result c.from_residual.ensures.1 in
    rw (p.1, p.2) (ends call_at (map call_of c.loop.calls.items) c.args.count c.loop.counter c.loop.rest.now (items_at call_at c.args.count c.args.bytes.now) c.in_err-item.field-0.0 c.loop-test.true c.in_err-item.ensures c.loop.invariant)

pub loop-preserved : goal.loop-preserved
loop-preserved c =
    let e : map call_of c.push.new.self.items ≡ map call_of c.loop.calls.items ++ call_of c.in_ok-item.item ∷ [] = rw c.in_ok-push.ensures.items (map_push call_of c.loop.calls.items c.in_ok-item.item) in
    rw e (goes_on call_at (map call_of c.loop.calls.items) c.args.count c.loop.counter c.loop.rest.now (items_at call_at c.args.count c.args.bytes.now) (call_of c.in_ok-item.item) c.in_ok-item.after.now c.loop-test.true c.in_ok-item.ensures c.loop.invariant)

pub returns : goal.returns
returns c = is_done call_at (map call_of c.loop.calls.items) c.args.count c.loop.counter c.loop.rest.now (items_at call_at c.args.count c.args.bytes.now) c.loop-test.false c.loop.invariant
