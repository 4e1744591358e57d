-- What a file that is not of the form is refused with.
use Rattle.sv_base.specs.declared.ids.FileId.{FileId}
use Rattle.sv_base.specs.declared.fault.SourceFault.{SourceFault}
use Rattle.sv_base.specs.declared.fault.FaultKind.TheVariants.{Unsupported}

-- Unsupported 0 at the first byte
abbrev pub not_of_form : FileId → SourceFault
not_of_form file = record { kind = Unsupported 0; place = record { file = file; line = 1; col = 1 } }
