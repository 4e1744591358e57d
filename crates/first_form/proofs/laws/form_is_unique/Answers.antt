use Rattle.first_form.proofs.Both.{one_program}
use Rattle.first_form.proofs.laws.form_is_unique.Goals as goal

pub returns : goal.returns
returns c = λ bytes some other f g. one_program bytes some other f g
