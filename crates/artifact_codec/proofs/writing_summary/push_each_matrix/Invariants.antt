use Rattle.std.proofs.Common.{◌≡◌, ◌++◌, take}
use Rattle.std.specs.List.{flat_map}
use Rattle.core_ir.specs.Plain.{all_bounds}
use Rattle.artifact_codec.specs.Spelling.{bounds}
use Rattle.artifact_codec.proofs.writing_summary.push_each_matrix.Given as goal

abbrev pub invariant-loop-b : goal.invariant-loop-b
invariant-loop-b l = l.out.items ≡ l.fn.out.items ++ flat_map bounds (all_bounds (take l.b-index l.list))
