use Rattle.report.specs.Report.{line_text}
use Rattle.report.proofs.Prefixes.{refused, within_next}
use Rattle.report.proofs.lines.push_lines.Goals as goal

pub returns-in_err-push_line-clause-err : goal.returns-in_err-push_line-clause-err
returns-in_err-push_line-clause-err c =
    refused _ (within_next line_text c.args.into.now.items c.args.lines.now c.loop-line.line-index c.line-item.result c.loop-line.into.items c.push_line.new.into.items
    c.loop-line-test.true c.loop-line.invariant (rw (← c.line-item.is) c.in_err-push_line.ensures.err))
