use Rattle.c_reads.proofs.PostfixRead.{does_postfix}
use Rattle.c_reads.proofs.laws.postfix_is_exact.Goals as goal

pub returns : goal.returns
returns c = λ inside argument exact start. does_postfix inside argument exact start
