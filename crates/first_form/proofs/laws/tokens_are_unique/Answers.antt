use Rattle.first_form.proofs.Unique.{unique}
use Rattle.first_form.proofs.laws.tokens_are_unique.Goals as goal

pub returns : goal.returns
returns c = λ bytes some others h k. unique some others 1 1 bytes h k
