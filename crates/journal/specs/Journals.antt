-- A journal as its users see it.
use Rattle.std.specs.Prelude.{◌≡◌, ℕ, ◌+◌, ◌^◌, ◌≤◌, ◌<◌, Bool, true, false, List, length, Result, Ok, Err}
use Rattle.sv_outside.specs.Disk.{Room}
use Rattle.journal.specs.declared.digests.Digests.{Digests}
use Rattle.journal.specs.declared.digests.Version.{Version}
use Rattle.journal.specs.declared.journal.Journal.{Journal}
use Rattle.journal.specs.declared.journal.NoRoom.{NoRoom}
use Rattle.journal.specs.declared.journal.NoRoom.TheVariants.{Full, NoMemory}
use Rattle.journal.specs.Format.{Entry}
use Rattle.journal.specs.Gates.{HasReserved}
use Rattle.journal.specs.Settling.{Settled}

abbrev pub journal_disk : {D : Type 0} → Journal D → D
journal_disk j = j.disk

-- the offset of the gate of the next record
abbrev pub journal_gate : {D : Type 0} → Journal D → ℕ
journal_gate j = j.gate

abbrev pub has_failed : {D : Type 0} → Journal D → Bool
has_failed j = j.failed

-- the image is not full, and unless a call has failed it has its next gate
pub record IsJournal {D : Type 0} (told : Bool) (seen : D → List ℕ) (journal : Journal D) : Type 0 where
  pub not_full : journal_gate journal ≤ 2 ^ 31
  pub place : told ≡ true → has_failed journal ≡ false → journal_gate journal + 1 ≤ length (seen (journal_disk journal))

-- each crash leaves one image: the header of this version, these records and a closed gate
abbrev pub IsSettled : {D : Type 0} → Bool → (D → List ℕ → Type 0) → Digests → Version → List Entry → Journal D → Type 0
IsSettled told may_leave digests version entries journal = Settled told (may_leave (journal_disk journal)) digests version entries (journal_gate journal)

-- what a call of reserve answers for a body of so many bytes: the image with the record is full, or there is room for it
abbrev pub Reserves : ℕ → ℕ → Room → Result (Unit {0}) NoRoom → Type 0
Reserves gate length room (Ok unit) = HasReserved room gate (length + 13)
Reserves gate length room (Err (Full size)) = (size ≡ gate + length + 14) × (2 ^ 31 < size)
Reserves gate length room (Err NoMemory) = gate + length + 14 ≤ 2 ^ 31

-- the same for records of so many bytes, the next gate among them
abbrev pub ReservesFor : ℕ → ℕ → Room → Result (Unit {0}) NoRoom → Type 0
ReservesFor gate length room (Ok unit) = HasReserved room gate length
ReservesFor gate length room (Err (Full size)) = (size ≡ gate + 1 + length) × (2 ^ 31 < size)
ReservesFor gate length room (Err NoMemory) = gate + 1 + length ≤ 2 ^ 31
