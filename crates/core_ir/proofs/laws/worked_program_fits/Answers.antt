use Rattle.core_ir.proofs.Fitting.{worked_fits}
use Rattle.core_ir.proofs.laws.worked_program_fits.Goals as goal

pub returns : goal.returns
returns c = worked_fits
