use Rattle.points_to.proofs.Words.{joined_has}
use Rattle.points_to.proofs.block.joined.Goals as goal

pub returns-clause-numbers : goal.returns-clause-numbers
returns-clause-numbers c = joined_has c.args.left c.args.right c.requires
