use Rattle.std.proofs.Common.{◌≡◌, ◌++◌, take}
use Rattle.std.specs.List.{flat_map}
use Rattle.core_ir.specs.Plain.{lists_of}
use Rattle.artifact_codec.specs.Spelling.{numbers}
use Rattle.artifact_codec.proofs.writing.push_each_list.Given as goal

abbrev pub invariant-loop-list : goal.invariant-loop-list
invariant-loop-list l = l.out.items ≡ l.fn.out.items ++ flat_map numbers (lists_of (take l.list-index l.lists))
