use Rattle.artifact_codec.proofs.Whole.{not_six}
use Rattle.artifact_codec.proofs.laws.six_is_no_spelling.Goals as goal

pub returns : goal.returns
returns c = λ v e. not_six v e
