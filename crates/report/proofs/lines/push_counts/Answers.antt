use Rattle.report.specs.Append.{AppendsPrefix}
use Rattle.report.specs.Report.{count_text}
use Rattle.report.proofs.Prefixes.{refused, within_next}
use Rattle.report.proofs.lines.push_counts.Goals as goal

pub returns-in_err-push_count-clause-err : goal.returns-in_err-push_count-clause-err
returns-in_err-push_count-clause-err c =
    let p : AppendsPrefix c.loop-count.into.items _ c.push_count.new.into.items = c.in_err-push_count.ensures.err in
    refused _ (within_next (λ x. count_text x.0.now x.1) c.args.into.now.items c.args.counts.now c.loop-count.count-index _ c.loop-count.into.items c.push_count.new.into.items
    c.loop-count-test.true c.loop-count.invariant p)
