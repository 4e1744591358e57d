-- A disk that keeps its calls, as its users see it.
use Rattle.std.specs.Prelude.{ℕ, ◌-◌, List, length, vec_len, vec_capacity}
use Rattle.sv_outside.specs.Disk.{Room}
use Rattle.disk_memory.specs.declared.medium.Medium.{Medium}
use Rattle.disk_memory.specs.Calls.{Op, ops_of, image, image_since}

-- what it held at first
abbrev pub medium_first : Medium → List ℕ
medium_first m = m.first.items

-- what it reads
abbrev pub medium_seen : Medium → List ℕ
medium_seen m = m.bytes.items

-- its record of calls
abbrev pub medium_record : Medium → List Op
medium_record m = ops_of m.calls.items m.store.items

-- what a crash may leave
abbrev pub medium_images : Medium → List ℕ → Type 0
medium_images m c = image (medium_first m) (medium_record m) c

-- the number of its calls
abbrev pub medium_moment : Medium → ℕ
medium_moment m = length m.calls.items

-- what a crash since a moment might have left
abbrev pub medium_since : Medium → ℕ → List ℕ → Type 0
medium_since m t c = image_since (medium_first m) (medium_record m) t c

abbrev pub medium_room : Medium → Room
medium_room m = record { length = vec_capacity m.bytes; calls = vec_capacity m.calls - vec_len m.calls; bytes = vec_capacity m.store - vec_len m.store }
