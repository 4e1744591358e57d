-- What the forms that never fail show of themselves.
use Rattle.std.specs.Prelude.{ℕ, List}
use Rattle.sv_outside.specs.declared.sure_sources.SureSources.{SureSources}
use Rattle.sv_outside.specs.declared.sure_sink.SureSink.{SureSink}
use Rattle.sv_outside.specs.Outside.{Files}
use Rattle.sv_outside.specs.Memory.{file_or_empty}

abbrev pub sure_files : SureSources → Files
sure_files s = file_or_empty s.files.items

abbrev pub sure_loads : SureSources → ℕ
sure_loads s = s.calls

abbrev pub sure_taken : SureSink → List ℕ
sure_taken s = s.bytes.items

abbrev pub sure_put_refusals : SureSink → ℕ
sure_put_refusals s = s.refusals
