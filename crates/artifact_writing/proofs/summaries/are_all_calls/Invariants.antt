use Rattle.std.proofs.Common.{◌≡◌, drop, map}
use Rattle.std.specs.List.{list_all}
use Rattle.artifact_codec.specs.Demands.{is_call}
use Rattle.core_ir.specs.Plain.{call_of}
use Rattle.artifact_writing.proofs.summaries.are_all_calls.Given as goal

abbrev pub invariant-loop-c : goal.invariant-loop-c
invariant-loop-c l = list_all is_call (map call_of (drop l.c-index l.calls)) ≡ list_all is_call (map call_of l.calls)
