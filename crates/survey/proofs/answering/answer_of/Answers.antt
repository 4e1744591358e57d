use Rattle.survey.proofs.OneFile.{sound_answer}
use Rattle.survey.proofs.answering.answer_of.Goals as goal

pub returns-clause-sound : goal.returns-clause-sound
returns-clause-sound c = sound_answer c.first_or_any-answer.result _ _ c.first_or_any-answer.ensures
