use Rattle.std.proofs.Common.{◌≡◌, ◌++◌, take}
use Rattle.std.specs.List.{flat_map}
use Rattle.report.specs.Report.{count_text}
use Rattle.report.proofs.lines.push_counts.Given as goal

abbrev pub invariant-loop-count : goal.invariant-loop-count
invariant-loop-count l = l.into.items ≡ l.initial.into.items ++ flat_map (λ c. count_text c.0.now c.1) (take l.count-index l.counts)
