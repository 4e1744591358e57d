use Rattle.std.proofs.Common.{◌≡◌, ◌++◌, take}
use Rattle.std.specs.List.{flat_map}
use Rattle.report.specs.Report.{line_text}
use Rattle.report.proofs.lines.push_lines.Given as goal

abbrev pub invariant-loop-line : goal.invariant-loop-line
invariant-loop-line l = l.into.items ≡ l.initial.into.items ++ flat_map line_text (take l.line-index l.lines)
