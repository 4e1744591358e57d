use Rattle.artifact_codec.proofs.Fitting.{artifact_meets}
use Rattle.artifact_codec.proofs.laws.artifacts_that_fit_meet_the_demands.Goals as goal

pub returns : goal.returns
returns c = λ p i f view a fits e v h. artifact_meets p fits i f view a e v h
