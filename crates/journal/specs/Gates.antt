-- The room for a record behind a gate.
use Rattle.std.specs.Prelude.{ℕ, ◌+◌, ◌^◌, ◌≤◌}
use Rattle.sv_outside.specs.Disk.{Room, HasRoom}

-- the room for a record of so many bytes, its next gate among them: two writes and two syncs, and an image that is not full
pub record HasReserved (room : Room) (gate length : ℕ) : Type 0 where
  pub not_full : gate + 1 + length ≤ 2 ^ 31
  pub disk : HasRoom room (gate + 1 + length) 4 (length + 1)
