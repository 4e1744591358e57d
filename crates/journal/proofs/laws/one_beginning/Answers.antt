use Rattle.journal.proofs.Unique.{some_beginning, one_beginning}
use Rattle.journal.proofs.laws.one_beginning.Goals as goal

pub returns-clause-some : goal.returns-clause-some
returns-clause-some c = λ digests image. some_beginning digests image

pub returns-clause-only : goal.returns-clause-only
returns-clause-only c = λ digests image front other. one_beginning digests image front other
