use Rattle.core_ir.proofs.ArtifactFitting.{contributions_fit, none_fit}
use Rattle.core_ir.proofs.part_laws.worked_contributions_fit.Goals as goal

pub returns-clause-some : goal.returns-clause-some
returns-clause-some c = contributions_fit

pub returns-clause-none : goal.returns-clause-none
returns-clause-none c = none_fit
