use Rattle.std.proofs.Common.{◌≡◌, drop, nat_lt}
use Rattle.artifact_codec.specs.Demands.{ascend, ascend_from}
use Rattle.artifact_writing.proofs.demands.numbers_ascend.Given as goal

abbrev pub invariant-loop-n : goal.invariant-loop-n
invariant-loop-n l = ascend_from nat_lt l.last (drop l.n-index l.list) ≡ ascend nat_lt l.list
