use Rattle.points_to.proofs.Words.{single_shifted}
use Rattle.points_to.proofs.block.block_of.Goals as goal

pub returns-clause-numbers : goal.returns-clause-numbers
returns-clause-numbers c = λ n. single_shifted c.args.number n
