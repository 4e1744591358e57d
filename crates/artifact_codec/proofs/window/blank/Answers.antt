use Rattle.std.proofs.Common.{refl, false, arith}
use Rattle.std.proofs.lemmas.List.{get_or-replicate, length-replicate}
use Rattle.artifact_codec.proofs.window.blank.Goals as goal

pub returns : goal.returns
returns c = record { low_is = refl; wide = omega (arith, length-replicate 1024 false); unmarked = λ i lt. get_or-replicate 1024 i false false (omega (arith, lt, length-replicate 1024 false)); next_is = refl }
