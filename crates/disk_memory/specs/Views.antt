-- What disks in memory show of themselves.
use Rattle.std.specs.Prelude.{ℕ, ◌==◌, ◌||◌, Bool, false, nat_le, List, Option, Some, None}
use Rattle.std.specs.List.{list_any}
use Rattle.sv_outside.specs.Disk.{Room}
use Rattle.disk_memory.specs.declared.memory_disk.MemoryDisk.{MemoryDisk}
use Rattle.disk_memory.specs.declared.sure_disk.SureDisk.{SureDisk}
use Rattle.disk_memory.specs.Calls.{Op}
use Rattle.disk_memory.specs.Media.{medium_first, medium_seen, medium_record, medium_images, medium_moment, medium_since, medium_room}

-- what it held at first
abbrev pub memory_first : MemoryDisk → List ℕ
memory_first d = medium_first d.medium

abbrev pub memory_seen : MemoryDisk → List ℕ
memory_seen d = medium_seen d.medium

-- its writes, cuts and syncs, each done or failed
abbrev pub memory_record : MemoryDisk → List Op
memory_record d = medium_record d.medium

abbrev pub memory_images : MemoryDisk → List ℕ → Type 0
memory_images d = medium_images d.medium

abbrev pub memory_moment : MemoryDisk → ℕ
memory_moment d = medium_moment d.medium

abbrev pub memory_since : MemoryDisk → ℕ → List ℕ → Type 0
memory_since d = medium_since d.medium

abbrev pub memory_room : MemoryDisk → Room
memory_room d = medium_room d.medium

abbrev pub memory_faults : MemoryDisk → ℕ
memory_faults d = d.faults

-- the numbers of the calls that fail
abbrev pub memory_failing : MemoryDisk → List ℕ
memory_failing d = d.failing.items

-- the number from which on every call fails
abbrev pub memory_stop : MemoryDisk → Option ℕ
memory_stop d = d.stop

-- the number of the next call
abbrev pub memory_calls : MemoryDisk → ℕ
memory_calls d = d.number

abbrev pub has_stopped : Option ℕ → ℕ → Bool
has_stopped None number = false
has_stopped (Some stop) number = nat_le stop number

-- the next call fails: it is `stop` or later, or one that is to fail
abbrev pub memory_fails : MemoryDisk → Bool
memory_fails d = has_stopped (memory_stop d) (memory_calls d) || list_any (λ n. n == memory_calls d) (memory_failing d)

abbrev pub sure_first : SureDisk → List ℕ
sure_first d = medium_first d.medium

abbrev pub sure_seen : SureDisk → List ℕ
sure_seen d = medium_seen d.medium

abbrev pub sure_record : SureDisk → List Op
sure_record d = medium_record d.medium

abbrev pub sure_images : SureDisk → List ℕ → Type 0
sure_images d = medium_images d.medium

abbrev pub sure_moment : SureDisk → ℕ
sure_moment d = medium_moment d.medium

abbrev pub sure_since : SureDisk → ℕ → List ℕ → Type 0
sure_since d = medium_since d.medium

abbrev pub sure_room : SureDisk → Room
sure_room d = medium_room d.medium
