use Rattle.std.proofs.Common.{sym}
use Rattle.survey.specs.computed.Asking.{asking}
use Rattle.survey.specs.Sources.{source_of, sources_of}
use Rattle.survey.proofs.OneFile.{answered}
use Rattle.survey.proofs.answering.answer_first.Goals as goal

pub returns-in-Some : goal.returns-in-Some
returns-in-Some c =
    let h = rw (c.as_bytes.ensures.value, c.deref.ensures.value) at c.answer_file-answer.ensures in
    answered c.answer_file-answer.result (asking c.args.asked.now) (sources_of c.args.files.now) (source_of c.in-Some.file.now) (sym c.in-Some.ensures) h
