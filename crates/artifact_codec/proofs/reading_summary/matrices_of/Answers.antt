use Rattle.std.proofs.Common.{◌≡◌, ◌++◌, ◌∷◌, []}
use Rattle.std.proofs.lemmas.Result.{err_from_is_err_and}
use Rattle.std.proofs.lemmas.List.{map_push}
use Rattle.core_ir.specs.Plain.{bounds_of, all_bounds}
use Rattle.artifact_codec.specs.computed.Reading.{items_at, bounds_at}
use Rattle.artifact_codec.proofs.Loops.{goes_on, ends, is_done}
use Rattle.artifact_codec.proofs.reading_summary.matrices_of.Goals as goal

pub returns-in_err-item : goal.returns-in_err-item
returns-in_err-item c =
    let p = err_from_is_err_and c.from_residual.result c.from_residual.ensures.1 in
    rw (p.1, p.2) (ends bounds_at (all_bounds c.loop.matrices.items) c.args.count c.loop.counter c.loop.rest.now (items_at bounds_at c.args.count c.args.bytes.now) c.in_err-item.field-0.0 c.loop-test.true c.in_err-item.ensures c.loop.invariant)

pub loop-preserved : goal.loop-preserved
loop-preserved c =
    let e : all_bounds c.push.new.self.items ≡ all_bounds c.loop.matrices.items ++ bounds_of c.in_ok-item.item ∷ [] = rw c.in_ok-push.ensures.items (map_push bounds_of c.loop.matrices.items c.in_ok-item.item) in
    rw e (goes_on bounds_at (all_bounds c.loop.matrices.items) c.args.count c.loop.counter c.loop.rest.now (items_at bounds_at c.args.count c.args.bytes.now) (bounds_of c.in_ok-item.item) c.in_ok-item.after.now c.loop-test.true c.in_ok-item.ensures c.loop.invariant)

pub returns : goal.returns
returns c = is_done bounds_at (all_bounds c.loop.matrices.items) c.args.count c.loop.counter c.loop.rest.now (items_at bounds_at c.args.count c.args.bytes.now) c.loop-test.false c.loop.invariant
