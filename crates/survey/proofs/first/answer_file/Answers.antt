use Rattle.std.proofs.Common.{refl}
use Rattle.survey.proofs.first.answer_file.Goals as goal

pub returns-in-Err-Fault : goal.returns-in-Err-Fault
returns-in-Err-Fault c =
    let ensures = rw c.in-Err-Fault.field-0-is at c.in-Err-Fault.ensures in
    ensures.other_form c.in-Err-Fault.field-0-0 refl
