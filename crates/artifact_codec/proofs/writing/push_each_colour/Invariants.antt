use Rattle.std.proofs.Common.{◌≡◌, ◌++◌, take}
use Rattle.std.specs.List.{flat_map}
use Rattle.artifact_codec.specs.Spelling.{site_colour}
use Rattle.artifact_codec.proofs.writing.push_each_colour.Given as goal

abbrev pub invariant-loop-pair : goal.invariant-loop-pair
invariant-loop-pair l = l.out.items ≡ l.fn.out.items ++ flat_map site_colour (take l.pair-index l.colours)
