use Rattle.std.proofs.Common.{◌≡◌, ◌++◌, take}
use Rattle.std.specs.List.{flat_map}
use Rattle.artifact_codec.specs.Spelling.{optional, signed}
use Rattle.artifact_codec.proofs.writing_summary.push_entries.Given as goal

abbrev pub invariant-loop-entry : goal.invariant-loop-entry
invariant-loop-entry l = l.out.items ≡ l.fn.out.items ++ flat_map (optional signed) (take l.entry-index l.entries)
