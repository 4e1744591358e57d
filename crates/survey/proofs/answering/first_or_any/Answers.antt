use Rattle.survey.proofs.OneFile.{any_answered}
use Rattle.survey.proofs.answering.first_or_any.Goals as goal

pub returns-in-None : goal.returns-in-None
returns-in-None c = any_answered c.answer_any-answer.result _ _ c.answer_any-answer.ensures c.in-None.ensures
