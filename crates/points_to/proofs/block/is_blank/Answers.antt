use Rattle.std.proofs.Common.{eqb-true, arith}
use Rattle.std.proofs.lemmas.Bool.{eqb-false}
use Rattle.points_to.proofs.Words.{empty_has, some_has}
use Rattle.points_to.proofs.block.is_blank.Goals as goal

pub returns-clause-blank : goal.returns-clause-blank
returns-clause-blank c = λ t n. empty_has c.args.block n (eqb-true c.args.block.bits 0 t)

pub returns-clause-some : goal.returns-clause-some
returns-clause-some c = λ t. some_has c.args.block (omega arith) (eqb-false c.args.block.bits 0 t)
