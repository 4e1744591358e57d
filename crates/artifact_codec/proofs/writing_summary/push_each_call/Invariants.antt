use Rattle.std.proofs.Common.{map, ◌≡◌, ◌++◌, take}
use Rattle.std.specs.List.{flat_map}
use Rattle.core_ir.specs.Plain.{call_of}
use Rattle.artifact_codec.specs.Spelling.{call}
use Rattle.artifact_codec.proofs.writing_summary.push_each_call.Given as goal

abbrev pub invariant-loop-c : goal.invariant-loop-c
invariant-loop-c l = l.out.items ≡ l.fn.out.items ++ flat_map call (map call_of (take l.c-index l.calls))
