use Rattle.std.proofs.Common.{◌≡◌, drop}
use Rattle.artifact_codec.specs.Demands.{ascend, ascend_from}
use Rattle.core_ir.specs.Constraints.{is_constraint_before}
use Rattle.artifact_writing.proofs.demands.constraints_ascend.Given as goal

abbrev pub invariant-loop-c : goal.invariant-loop-c
invariant-loop-c l = ascend_from is_constraint_before l.last (drop l.c-index l.list) ≡ ascend is_constraint_before l.list
