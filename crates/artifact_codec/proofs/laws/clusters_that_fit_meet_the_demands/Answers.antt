use Rattle.artifact_codec.proofs.Fitting.{clusters_meet}
use Rattle.artifact_codec.proofs.laws.clusters_that_fit_meet_the_demands.Goals as goal

pub returns : goal.returns
returns c = λ count clusters small h. clusters_meet count clusters small h
