use Rattle.points_to.proofs.Words.{lacking_has}
use Rattle.points_to.proofs.blocks.lacking.Goals as goal

pub returns-clause-numbers : goal.returns-clause-numbers
returns-clause-numbers c = λ n. lacking_has c.args.block c.word.result n _ c.word.type_inv (c.word.ensures n)
