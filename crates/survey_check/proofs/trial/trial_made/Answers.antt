use Rattle.std.proofs.Common.{Some, refl}
use Rattle.survey_check.specs.computed.Endings.{making}
use Rattle.survey_check.proofs.Rows.{ends_loaded, ends_short}
use Rattle.survey_check.proofs.trial.trial_made.Goals as goal

pub returns-in_default-clause-ends : goal.returns-in_default-clause-ends
returns-in_default-clause-ends g c = ends_short _ _ _ _ _

pub returns-clause-ends : goal.returns-clause-ends
returns-clause-ends g c = ends_loaded (Some (making c.args.trial)) (record { what = making c.args.trial; asks = refl }) _ _ 0 0 _ _ _ _ _ _ refl c.check_alone.result.1 c.check_alone.ensures.ends
