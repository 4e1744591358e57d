use Rattle.first_form.proofs.Both.{form_of, no_program}
use Rattle.first_form.proofs.reading.front.Goals as goal

pub returns-in-Ok-clause-form : goal.returns-in-Ok-clause-form
returns-in-Ok-clause-form c = form_of c.args.bytes.now c.in-Ok.program c.in-Ok.ensures

pub returns-in-Err-NotOfForm-clause-other_form : goal.returns-in-Err-NotOfForm-clause-other_form
returns-in-Err-NotOfForm-clause-other_form c = λ f is p form. no_program c.args.bytes.now (rw c.in-Err-NotOfForm.field-0-is at c.in-Err-NotOfForm.ensures) p form
