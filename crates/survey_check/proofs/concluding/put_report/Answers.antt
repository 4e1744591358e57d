use Rattle.survey_check.proofs.Rows.{concludes_put, concludes_short}
use Rattle.survey_check.proofs.concluding.put_report.Goals as goal

pub returns-in-Ok-clause-ends : goal.returns-in-Ok-clause-ends
returns-in-Ok-clause-ends g c = concludes_put c.put_text.result c.in-Ok.text.items c.in-Ok.status _ _ _ _ c.in-Ok.ensures.text c.in-Ok.ensures.small (rw c.deref.ensures.value at c.put_text.ensures.put)

pub returns-in-Err-clause-ends : goal.returns-in-Err-clause-ends
returns-in-Err-clause-ends g c = concludes_short _ _
