use Rattle.survey_check.proofs.Rows.{concludes_stopped}
use Rattle.survey_check.proofs.concluding.finish_and_put.Goals as goal

pub returns-in-Err-clause-ends : goal.returns-in-Err-clause-ends
returns-in-Err-clause-ends g c = concludes_stopped c.stopped-ending.result _ _ c.stopped-ending.ensures.stopped
