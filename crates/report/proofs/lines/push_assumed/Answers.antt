use Rattle.report.specs.Append.{AppendsPrefix}
use Rattle.report.specs.Report.{assumed_text}
use Rattle.report.proofs.Prefixes.{refused, within_next}
use Rattle.report.proofs.lines.push_assumed.Goals as goal

pub returns-in_err-push_pieces-clause-err : goal.returns-in_err-push_pieces-clause-err
unfolding assumed_text
returns-in_err-push_pieces-clause-err c =
    let p : AppendsPrefix c.loop-name.into.items (assumed_text c.name-item.result.items) c.push_pieces.new.into.items = rw (← c.deref.ensures.value) c.in_err-push_pieces.ensures.err in
    refused _ (within_next (λ name. assumed_text name.items) c.args.into.now.items c.args.assumed.now c.loop-name.name-index c.name-item.result c.loop-name.into.items c.push_pieces.new.into.items
    c.loop-name-test.true c.loop-name.invariant (rw (← c.name-item.is) p))
