use Rattle.survey.specs.computed.Asking.{asking}
use Rattle.survey.specs.Sources.{sources_of}
use Rattle.survey.proofs.Loads.{all_short}
use Rattle.survey.proofs.Rows.{ends}
use Rattle.survey.proofs.top.survey_files.Goals as goal

pub answer_of-answer-requires : goal.answer_of-answer-requires
answer_of-answer-requires g c =
    rw c.deref.ensures.value (all_short (g.S.Sources.files c.args.sources.now) (asking c.args.asked.now).files (sources_of c.in-Ok.files.items) c.in-Ok.ensures.stands)

pub returns : goal.returns
returns g c =
    let answered = rw c.deref.ensures.value at c.answer_of-answer.ensures.answered in
    ends (g.S.Sources.files c.args.sources.now) (asking c.args.asked.now) (sources_of c.in-Ok.files.items) c.in-Ok.ensures.stands c.put_answer-ending.result c.answer_of-answer.result _ _ _ answered c.put_answer-ending.ensures c.in-Ok.ensures.all_read c.in-Ok.ensures.counted
