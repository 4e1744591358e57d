use Rattle.c_grammar.proofs.Fronts.{bad_is_one}
use Rattle.c_grammar.proofs.laws.first_bad_is_unique.Goals as goal

pub returns-clause-before : goal.returns-clause-before
returns-clause-before c = λ tokens before behind others rest t u p q. (bad_is_one p q).0

pub returns-clause-token : goal.returns-clause-token
returns-clause-token c = λ tokens before behind others rest t u p q. (bad_is_one p q).1
