use Rattle.artifact_codec.proofs.Whole.{no_rest}
use Rattle.artifact_codec.proofs.laws.no_spelling_begins_another.Goals as goal

pub returns : goal.returns
returns c = λ v w rest f g e. no_rest v w rest f g e
