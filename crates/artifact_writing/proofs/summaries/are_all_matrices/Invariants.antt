use Rattle.std.proofs.Common.{◌≡◌, drop}
use Rattle.std.specs.List.{list_all}
use Rattle.artifact_codec.specs.Demands.{is_matrix}
use Rattle.core_ir.specs.Plain.{all_bounds}
use Rattle.artifact_writing.proofs.summaries.are_all_matrices.Given as goal

abbrev pub invariant-loop-b : goal.invariant-loop-b
invariant-loop-b l = list_all is_matrix (all_bounds (drop l.b-index l.list)) ≡ list_all is_matrix (all_bounds l.list)
