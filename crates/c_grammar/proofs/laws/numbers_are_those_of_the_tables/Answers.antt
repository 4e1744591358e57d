use Rattle.std.specs.Prelude.{refl}
use Rattle.c_grammar.proofs.laws.numbers_are_those_of_the_tables.Goals as goal

pub returns-clause-punctuators : goal.returns-clause-punctuators
returns-clause-punctuators c = refl

pub returns-clause-keywords : goal.returns-clause-keywords
returns-clause-keywords c = refl
