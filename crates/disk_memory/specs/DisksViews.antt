-- What disks in memory tell of a name: of the disk that stands there, or of an empty one.
use Rattle.std.specs.Prelude.{◌≡◌, ℕ, List, [], Option, Some, None}
use Rattle.disk_memory.specs.declared.memory_disk.MemoryDisk.{MemoryDisk}
use Rattle.disk_memory.specs.declared.sure_disk.SureDisk.{SureDisk}
use Rattle.disk_memory.specs.Views.{memory_seen, memory_images, memory_moment, memory_faults, sure_seen, sure_images, sure_moment}

abbrev pub memory_faults_of : Option MemoryDisk → ℕ
memory_faults_of None = 0
memory_faults_of (Some d) = memory_faults d

abbrev pub memory_moment_of : Option MemoryDisk → ℕ
memory_moment_of None = 0
memory_moment_of (Some d) = memory_moment d

abbrev pub memory_seen_of : Option MemoryDisk → List ℕ
memory_seen_of None = []
memory_seen_of (Some d) = memory_seen d

abbrev pub memory_images_of : Option MemoryDisk → List ℕ → Type 0
memory_images_of None c = c ≡ []
memory_images_of (Some d) c = memory_images d c

abbrev pub sure_moment_of : Option SureDisk → ℕ
sure_moment_of None = 0
sure_moment_of (Some d) = sure_moment d

abbrev pub sure_seen_of : Option SureDisk → List ℕ
sure_seen_of None = []
sure_seen_of (Some d) = sure_seen d

abbrev pub sure_images_of : Option SureDisk → List ℕ → Type 0
sure_images_of None c = c ≡ []
sure_images_of (Some d) c = sure_images d c
