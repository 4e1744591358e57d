-- A reading as its users see it.
use Rattle.std.specs.Prelude.{◌≡◌, ℕ, ◌+◌, ◌≤◌, Bool, true, List, [], ◌∷◌, ◌++◌, length, Option, Some, None, Result, Ok, Err, if◌then◌else◌}
use Rattle.sv_outside.specs.Disk.{Only}
use Rattle.journal.specs.declared.digests.Digests.{Digests}
use Rattle.journal.specs.declared.digests.Version.{Version}
use Rattle.journal.specs.declared.fault.OpenFault.{OpenFault}
use Rattle.journal.specs.declared.fault.OpenFault.TheVariants.{Damaged, NoMemory}
use Rattle.journal.specs.declared.kept.Kept.{Kept}
use Rattle.journal.specs.declared.reader.Reading.{Reading}
use Rattle.journal.specs.declared.reader.State.{State}
use Rattle.journal.specs.declared.reader.State.TheVariants.{Going, Refused, Ended}
use Rattle.journal.specs.declared.scan.Scan.{Scan}
use Rattle.journal.specs.Format.{Entry, Stands}
use Rattle.journal.specs.Headers.{header_for}
use Rattle.journal.specs.Lists.{versions, version_entry, ordinary}
use Rattle.journal.specs.Nexts.{HandsOut, ComesToDamage}
use Rattle.journal.specs.Scans.{IsInside}
use Rattle.journal.specs.Settling.{Settled}
use Rattle.journal.specs.Steps.{IsReadingFault}

abbrev pub reading_disk : {D : Type 0} → Reading D → D
reading_disk r = r.disk

abbrev pub reading_scan : {D : Type 0} → Reading D → Scan
reading_scan r = r.scan

abbrev pub reading_version : {D : Type 0} → Reading D → Version
reading_version r = r.scan.version

-- it goes on, or it was refused for this fault, or the end was reached
abbrev pub reading_state : {D : Type 0} → Reading D → State
reading_state r = r.state

abbrev pub IsGoing : {D : Type 0} → Reading D → Type 0
IsGoing r = r.state ≡ Going

abbrev pub IsRefused : {D : Type 0} → OpenFault → Reading D → Type 0
IsRefused fault r = r.state ≡ Refused fault

abbrev pub HasEnded : {D : Type 0} → Reading D → Type 0
HasEnded r = r.state ≡ Ended

-- a reading that can be read on, or is done with
pub record IsReading {D : Type 0} (told : Bool) (seen : D → List ℕ) (may_leave : D → List ℕ → Type 0) (reading : Reading D) : Type 0 where
  pub inside : IsInside (reading_scan reading)
  pub size : told ≡ true → IsGoing reading → (reading_scan reading).size ≡ length (seen (reading_disk reading))
  pub durable : IsGoing reading → Only (seen (reading_disk reading)) (may_leave (reading_disk reading))
  pub place : told ≡ true → HasEnded reading → (reading_scan reading).at + 1 ≤ length (seen (reading_disk reading))
  pub refused : (fault : OpenFault) → IsRefused fault reading → IsReadingFault fault

-- the end of these records was reached
pub record EndsWith {D : Type 0} (told : Bool) (may_leave : D → List ℕ → Type 0) (digests : Digests) (entries : List Entry) (reading : Reading D) : Type 0 where
  pub settled : Settled told (may_leave (reading_disk reading)) digests (reading_version reading) entries (reading_scan reading).at
  pub versioned : versions entries ≡ (if (reading_scan reading).versioned then version_entry digests.current ∷ [] else [])
  pub current : (reading_scan reading).current ≡ digests.current

-- after these records of an image, and maybe a version record, next answers the next one, or the end, or where one is
-- damaged
abbrev pub NextIs : {D : Type 0} → Bool → (D → List ℕ → Type 0) → Digests → List Entry → List ℕ → Reading D → Result (Option Kept) OpenFault → Type 0
NextIs told may_leave digests entries image new (Ok (Some kept)) = HandsOut digests entries (reading_version new) kept image (reading_scan new)
NextIs told may_leave digests entries image new (Ok None) = (passed : List Entry) × (ordinary passed ≡ []) × Stands (header_for digests (reading_version new)) (entries ++ passed) image × EndsWith told may_leave digests (entries ++ passed) new
NextIs told may_leave digests entries image new (Err (Damaged at)) = ComesToDamage digests entries (reading_version new) image at
NextIs told may_leave digests entries image new (Err other) = Unit {0}

-- what a reading is after an answer: it goes on, or has ended, or answers the fault again
abbrev pub StateAfter : State → Result (Option Kept) OpenFault → Type 0
StateAfter state (Ok (Some kept)) = state ≡ Going
StateAfter state (Ok None) = state ≡ Ended
StateAfter state (Err NoMemory) = state ≡ Going
StateAfter state (Err fault) = state ≡ Refused fault
