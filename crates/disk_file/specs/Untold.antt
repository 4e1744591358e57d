-- What a disk has that tells nothing of itself.
use Rattle.std.specs.Prelude.{◌≡◌, ◌^◌, true, false}
use Rattle.sv_outside.specs.Disk.{Room}

-- the room of a file, which is always enough: each count is beyond what a call can ask for
abbrev pub unlimited : Room
unlimited = record { length = 2 ^ 64; calls = 2 ^ 64; bytes = 2 ^ 64 }

pub untold : false ≡ true → ⊥
untold e = cc
