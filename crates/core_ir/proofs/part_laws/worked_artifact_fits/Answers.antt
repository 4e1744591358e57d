use Rattle.core_ir.proofs.ArtifactFitting.{artifact_fits, no_call_fits}
use Rattle.core_ir.proofs.part_laws.worked_artifact_fits.Goals as goal

pub returns-clause-called : goal.returns-clause-called
returns-clause-called c = artifact_fits

pub returns-clause-never : goal.returns-clause-never
returns-clause-never c = no_call_fits
