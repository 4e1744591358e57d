use Rattle.std.specs.Prelude.{refl}
use Rattle.c_grammar.proofs.Fronts.{front_begins, begins_whole}
use Rattle.c_grammar.proofs.laws.fronts_begin.Goals as goal

pub returns-clause-whole : goal.returns-clause-whole
returns-clause-whole c = λ items s tokens end d. begins_whole d

pub returns-clause-front : goal.returns-clause-front
returns-clause-front c = λ items s front back end d. front_begins d front back refl
