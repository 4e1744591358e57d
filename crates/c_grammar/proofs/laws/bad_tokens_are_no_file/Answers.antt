use Rattle.c_grammar.proofs.Fronts.{file_begins, bad_is_none}
use Rattle.c_grammar.proofs.laws.bad_tokens_are_no_file.Goals as goal

pub returns-clause-front : goal.returns-clause-front
returns-clause-front c = λ tokens front back items f e. file_begins tokens front back items f e

pub returns-clause-bad : goal.returns-clause-bad
returns-clause-bad c = λ tokens before t behind items bad f. bad_is_none tokens before t behind items bad f
