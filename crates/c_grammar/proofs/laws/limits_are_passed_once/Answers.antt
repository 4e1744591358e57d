use Rattle.c_grammar.proofs.Passing.{passed_at_one}
use Rattle.c_grammar.proofs.laws.limits_are_passed_once.Goals as goal

pub returns-clause-before : goal.returns-clause-before
returns-clause-before c = λ passed before behind others rest t u p q e. (passed_at_one p q e).0

pub returns-clause-token : goal.returns-clause-token
returns-clause-token c = λ passed before behind others rest t u p q e. (passed_at_one p q e).1
