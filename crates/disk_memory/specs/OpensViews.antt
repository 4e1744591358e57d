-- What disks by name in memory show of themselves.
use Rattle.std.specs.Prelude.{◌≡◌, ℕ, ◌==◌, Bool, List, [], Option, Some, None, String}
use Rattle.std.specs.declared.alloc.Global.{Global}
use Rattle.std.specs.List.{list_any}
use Rattle.disk_memory.specs.declared.disks.MemoryDisks.{MemoryDisks}
use Rattle.disk_memory.specs.declared.disks.SureDisks.{SureDisks}
use Rattle.disk_memory.specs.declared.memory_disk.MemoryDisk.{MemoryDisk}
use Rattle.disk_memory.specs.declared.sure_disk.SureDisk.{SureDisk}
use Rattle.disk_memory.specs.Named.{under}
use Rattle.disk_memory.specs.Views.{memory_first, memory_record, memory_failing, memory_stop, memory_calls, memory_faults, sure_first, sure_record}

-- the disks that were not handed out yet, by name
abbrev pub memory_left : MemoryDisks → List (String Global × MemoryDisk)
memory_left s = s.disks.items

abbrev pub sure_left : SureDisks → List (String Global × SureDisk)
sure_left s = s.disks.items

-- the disk under each name
abbrev pub memory_under : MemoryDisks → List ℕ → Option MemoryDisk
memory_under s name = under s.disks.items name

-- the numbers of the calls of open that fail
abbrev pub memory_failing_opens : MemoryDisks → List ℕ
memory_failing_opens s = s.failing.items

abbrev pub memory_opens : MemoryDisks → ℕ
memory_opens s = s.calls

-- the next call of open fails
abbrev pub memory_open_fails : MemoryDisks → Bool
memory_open_fails s = list_any (λ n. n == memory_opens s) (memory_failing_opens s)

abbrev pub memory_open_faults : MemoryDisks → ℕ
memory_open_faults s = s.faults

abbrev pub sure_under : SureDisks → List ℕ → Option SureDisk
sure_under s name = under s.disks.items name

abbrev pub sure_opens : SureDisks → ℕ
sure_opens s = s.calls

-- an empty disk without calls that never fails
pub record IsFreshMemory (d : MemoryDisk) : Type 0 where
  pub first : memory_first d ≡ []
  pub no_calls : memory_record d ≡ []
  pub failing : memory_failing d ≡ []
  pub stop : memory_stop d ≡ None
  pub number : memory_calls d ≡ 0
  pub faults : memory_faults d ≡ 0

-- the disk that stands under a name, or where there is none a fresh one
abbrev pub MemoryHandsOut : Option MemoryDisk → MemoryDisk → Type 0
MemoryHandsOut (Some stands) d = d ≡ stands
MemoryHandsOut None d = IsFreshMemory d

abbrev pub SureHandsOut : Option SureDisk → SureDisk → Type 0
SureHandsOut (Some stands) d = d ≡ stands
SureHandsOut None d = (sure_first d ≡ []) × (sure_record d ≡ [])
