use Rattle.std.proofs.Common.{◌≡◌, drop, nat_lt, None}
use Rattle.artifact_codec.specs.Demands.{ascend_from}
use Rattle.artifact_writing.proofs.Callees.{callees}
use Rattle.artifact_writing.proofs.summaries.calls_ascend.Given as goal

abbrev pub invariant-loop-c : goal.invariant-loop-c
invariant-loop-c l = ascend_from nat_lt l.last (callees (drop l.c-index l.calls)) ≡ ascend_from nat_lt None (callees l.calls)
