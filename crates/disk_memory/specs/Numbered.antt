-- What a call of a disk in memory leaves of its record of calls.
use Rattle.std.specs.Prelude.{◌≡◌, List, ◌++◌}
use Rattle.sv_outside.specs.Outside.{counted}
use Rattle.disk_memory.specs.declared.memory_disk.MemoryDisk.{MemoryDisk}
use Rattle.disk_memory.specs.declared.sure_disk.SureDisk.{SureDisk}
use Rattle.disk_memory.specs.Calls.{Op}
use Rattle.disk_memory.specs.Views.{memory_first, memory_record, memory_failing, memory_stop, memory_calls, sure_first, sure_record}

-- the same disk after a call that is numbered, and that was noted so
pub record IsNumbered (old new : MemoryDisk) (noted : List Op) : Type 0 where
  pub first : memory_first new ≡ memory_first old
  pub failing : memory_failing new ≡ memory_failing old
  pub stop : memory_stop new ≡ memory_stop old
  pub calls : memory_calls new ≡ counted (memory_calls old)
  pub noted_last : memory_record new ≡ memory_record old ++ noted

-- the same disk after one that is not
pub record IsUnnumbered (old new : MemoryDisk) : Type 0 where
  pub first : memory_first new ≡ memory_first old
  pub failing : memory_failing new ≡ memory_failing old
  pub stop : memory_stop new ≡ memory_stop old
  pub calls : memory_calls new ≡ memory_calls old
  pub same_record : memory_record new ≡ memory_record old

-- the same disk after a call that was noted so
pub record IsNoted (old new : SureDisk) (noted : List Op) : Type 0 where
  pub first : sure_first new ≡ sure_first old
  pub noted_last : sure_record new ≡ sure_record old ++ noted
