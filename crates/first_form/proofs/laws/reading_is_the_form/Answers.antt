use Rattle.first_form.proofs.Both.{form_of, reading_of}
use Rattle.first_form.proofs.laws.reading_is_the_form.Goals as goal

pub returns : goal.returns
returns c = λ bytes p. (form_of bytes p, reading_of bytes p)
