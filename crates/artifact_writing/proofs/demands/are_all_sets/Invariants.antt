use Rattle.std.proofs.Common.{◌≡◌, drop}
use Rattle.std.specs.List.{list_all}
use Rattle.artifact_codec.specs.Demands.{is_set}
use Rattle.core_ir.specs.Plain.{lists_of}
use Rattle.artifact_writing.proofs.demands.are_all_sets.Given as goal

abbrev pub invariant-loop-set : goal.invariant-loop-set
invariant-loop-set l = list_all is_set (lists_of (drop l.set-index l.sets)) ≡ list_all is_set (lists_of l.sets)
