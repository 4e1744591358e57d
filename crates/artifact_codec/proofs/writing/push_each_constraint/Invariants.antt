use Rattle.std.proofs.Common.{◌≡◌, ◌++◌, take}
use Rattle.std.specs.List.{flat_map}
use Rattle.artifact_codec.specs.Spelling.{constraint}
use Rattle.artifact_codec.proofs.writing.push_each_constraint.Given as goal

abbrev pub invariant-loop-c : goal.invariant-loop-c
invariant-loop-c l = l.out.items ≡ l.fn.out.items ++ flat_map constraint (take l.c-index l.constraints)
