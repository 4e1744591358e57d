use Rattle.core_ir.proofs.BoundsFitting.{bounds_fit}
use Rattle.core_ir.proofs.part_laws.worked_bounds_fit.Goals as goal

pub returns : goal.returns
returns c = bounds_fit
