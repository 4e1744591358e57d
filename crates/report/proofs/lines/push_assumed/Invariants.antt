use Rattle.std.proofs.Common.{◌≡◌, ◌++◌, take}
use Rattle.std.specs.List.{flat_map}
use Rattle.report.specs.Report.{assumed_text}
use Rattle.report.proofs.lines.push_assumed.Given as goal

abbrev pub invariant-loop-name : goal.invariant-loop-name
invariant-loop-name l = l.into.items ≡ l.initial.into.items ++ flat_map (λ name. assumed_text name.items) (take l.name-index l.assumed)
