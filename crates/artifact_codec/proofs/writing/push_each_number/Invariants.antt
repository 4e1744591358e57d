use Rattle.std.proofs.Common.{◌≡◌, ◌++◌, take}
use Rattle.std.specs.List.{flat_map}
use Rattle.artifact_codec.specs.Spelling.{number}
use Rattle.artifact_codec.proofs.writing.push_each_number.Given as goal

abbrev pub invariant-loop-n : goal.invariant-loop-n
invariant-loop-n l = l.out.items ≡ l.fn.out.items ++ flat_map number (take l.n-index l.list)
