use Rattle.survey_check.specs.computed.Endings.{making}
use Rattle.survey_check.proofs.Rows.{trial_accepted, ends_misread, ends_short}
use Rattle.survey_check.proofs.trial.trial_words.Goals as goal

pub returns-in-Err-Bad-clause-ends : goal.returns-in-Err-Bad-clause-ends
returns-in-Err-Bad-clause-ends g c = ends_misread _ _ _ _ _ (rw c.in-Err-Bad.field-0-is at c.in-Err-Bad.ensures)

pub returns-in-Err-NoMemory-clause-ends : goal.returns-in-Err-NoMemory-clause-ends
returns-in-Err-NoMemory-clause-ends g c = ends_short _ _ _ _ _

pub returns-clause-ends : goal.returns-clause-ends
returns-clause-ends g c = trial_accepted _ (making c.in-Ok.trial) c.trial_made.result.1 _ _ _ c.in-Ok.ensures c.trial_made.ensures.ends
