use Rattle.core_ir.proofs.BoundsFitting.{clusters_fit, sixteen_fit}
use Rattle.core_ir.proofs.part_laws.worked_clusters_fit.Goals as goal

pub returns-clause-four : goal.returns-clause-four
returns-clause-four c = clusters_fit

pub returns-clause-sixteen : goal.returns-clause-sixteen
returns-clause-sixteen c = sixteen_fit
