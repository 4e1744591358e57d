use Rattle.artifact_codec.proofs.Whole.{unique}
use Rattle.artifact_codec.proofs.laws.spellings_are_unique.Goals as goal

pub returns : goal.returns
returns c = λ v w f g e. unique v w f g e
