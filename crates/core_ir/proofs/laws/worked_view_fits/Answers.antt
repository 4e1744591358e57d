use Rattle.core_ir.proofs.ViewFitting.{view_fits}
use Rattle.core_ir.proofs.laws.worked_view_fits.Goals as goal

pub returns : goal.returns
returns c = view_fits
