use Rattle.c_grammar_examples.proofs.AtSizeOf.{at_name, at_plus, nowhere}
use Rattle.c_grammar_examples.proofs.limits_at_sizeof.Goals as goal

pub returns-clause-type_name : goal.returns-clause-type_name
returns-clause-type_name c = λ before t behind e q. nowhere before t behind e q

pub returns-clause-sum : goal.returns-clause-sum
returns-clause-sum c = at_plus

pub returns-clause-name : goal.returns-clause-name
returns-clause-name c = at_name
