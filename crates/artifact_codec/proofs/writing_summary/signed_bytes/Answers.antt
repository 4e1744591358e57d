use Rattle.std.proofs.Common.{ap, ◌∙◌}
use Rattle.std.specs.Int.{w128, to_be_bytes, cast_unsigned}
use Rattle.std.proofs.lemmas.Int.{to_z-of_z}
use Rattle.artifact_codec.specs.Spelling.{signed}
use Rattle.artifact_codec.proofs.writing_summary.signed_bytes.Goals as goal

pub returns : goal.returns
unfolding signed
returns c = c.to_be_bytes.ensures ∙ ap (λ n. to_be_bytes w128 n) (c.cast_unsigned.ensures ∙ ap (λ z. cast_unsigned w128 z) (to_z-of_z w128 c.args.z c.ranges.z))
