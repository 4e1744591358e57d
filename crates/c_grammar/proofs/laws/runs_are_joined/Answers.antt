use Rattle.std.specs.Prelude.{refl}
use Rattle.c_grammar.proofs.Fronts.{joined, front_of_beginning}
use Rattle.c_grammar.proofs.laws.runs_are_joined.Goals as goal

pub returns-clause-joined : goal.returns-clause-joined
returns-clause-joined c = λ stack middle left s t end before behind p q. joined p q

pub returns-clause-front : goal.returns-clause-front
returns-clause-front c = λ stack s front back b. front_of_beginning b front back refl
