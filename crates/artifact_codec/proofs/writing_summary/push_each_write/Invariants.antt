use Rattle.std.proofs.Common.{◌≡◌, ◌++◌, take}
use Rattle.std.specs.List.{flat_map}
use Rattle.artifact_codec.specs.Spelling.{write}
use Rattle.artifact_codec.proofs.writing_summary.push_each_write.Given as goal

abbrev pub invariant-loop-w : goal.invariant-loop-w
invariant-loop-w l = l.out.items ≡ l.fn.out.items ++ flat_map write (take l.w-index l.writes)
