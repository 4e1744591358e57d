use Rattle.std.proofs.Common.{◌≡◌, drop}
use Rattle.artifact_codec.specs.Demands.{ascend, ascend_from}
use Rattle.artifact_writing.specs.Orders.{is_class_before}
use Rattle.artifact_writing.proofs.summaries.writes_ascend.Given as goal

abbrev pub invariant-loop-write : goal.invariant-loop-write
invariant-loop-write l = ascend_from is_class_before l.last (drop l.write-index l.writes) ≡ ascend is_class_before l.writes
