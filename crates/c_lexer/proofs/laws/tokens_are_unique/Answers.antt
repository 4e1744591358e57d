use Rattle.c_lexer.proofs.Whole.{lexed_once, lexed_some}
use Rattle.c_lexer.proofs.laws.tokens_are_unique.Goals as goal

pub returns-clause-one : goal.returns-clause-one
returns-clause-one c = λ bytes name room names. lexed_some bytes name room names

pub returns-clause-unique : goal.returns-clause-unique
returns-clause-unique c = λ bytes name room names one other a b. lexed_once bytes name room names one other a b
