-- What the journal of tables holds, and what a crash leaves of publications.
use Rattle.std.specs.Prelude.{◌≡◌, ◌⊎◌, ℕ, Bool, true, false, ◌||◌, if◌then◌else◌, List, [], ◌∷◌, ◌++◌, map, Result, Ok, Err, Vec}
use Rattle.std.specs.declared.alloc.Global.{Global}
use Rattle.sv_base.specs.declared.errors.NoMemory.{NoMemory}
use Rattle.sv_outside.specs.Disk.{LeavesOnly}
use Rattle.sv_outside.specs.Outside.{Rose}
use Rattle.journal.specs.declared.digests.Digests.{Digests}
use Rattle.journal.specs.declared.digests.Version.{Version}
use Rattle.journal.specs.declared.journal.Journal.{Journal}
use Rattle.journal.specs.Format.{Entry}
use Rattle.journal.specs.Journals.{journal_disk, has_failed, IsSettled}
use Rattle.journal.specs.Settling.{HoldsEither}
use Rattle.tables.specs.declared.batch.Publication.{Publication}
use Rattle.tables.specs.declared.publish.Publish.{Publish}
use Rattle.tables.specs.declared.publish.Publish.TheVariants.{Stored, Lost, Disk, Full, NoMemory as OutOfMemory}
use Rattle.tables.specs.Shelves.{Shelved}
use Rattle.tables.specs.Sound.{record_body}

-- the record of an artifact
abbrev pub record_of : Shelved → ℕ → ℕ → List ℕ → Entry
record_of shelf round task artifact = record { round = round; task = task; body = record_body shelf round task artifact }

abbrev pub record_for : Shelved → ℕ → Publication → Entry
record_for shelf round p = record_of shelf round p.task p.artifact.items

abbrev pub records_of : Shelved → ℕ → List Publication → List Entry
records_of shelf round publications = map (record_for shelf round) publications

-- the publications that were answered so
abbrev pub answered_by : (Publish → Bool) → List Publication → List Publish → List Publication
answered_by is [] answers = []
answered_by is (p ∷ rest) [] = []
answered_by is (p ∷ rest) (answer ∷ answers) = if is answer then p ∷ answered_by is rest answers else answered_by is rest answers

abbrev pub is_stored : Publish → Bool
is_stored Stored = true
is_stored (Lost round standing) = false
is_stored Disk = false
is_stored (Full size) = false
is_stored OutOfMemory = false

abbrev pub is_failed : Publish → Bool
is_failed Disk = true
is_failed Stored = false
is_failed (Lost round standing) = false
is_failed (Full size) = false
is_failed OutOfMemory = false

-- its record was written, or was to be
abbrev pub is_written : Publish → Bool
is_written answer = is_stored answer || is_failed answer

-- a call of the disk has failed, in this call or before
abbrev pub HasFailed : {D : Type 0} → (D → ℕ) → Journal D → Journal D → Type 0
HasFailed faults old new = (has_failed old ≡ true) ⊎ Rose (faults (journal_disk old)) (faults (journal_disk new))

-- where each crash leaves certain records before a call, each crash after it leaves them with these behind
abbrev pub Lasts : {D : Type 0} → Bool → (D → List ℕ → Type 0) → List Entry → Journal D → Journal D → Type 0
Lasts told may_leave batch old new =
    told ≡ true → (digests : Digests) (version : Version) (entries : List Entry) →
    IsSettled told may_leave digests version entries old → IsSettled told may_leave digests version (entries ++ batch) new

-- what one before the call could leave, or the records from before, with all of a batch or without
abbrev pub LeftByWriting : (List ℕ → Type 0) → Digests → List Entry → List Entry → List ℕ → Type 0
LeftByWriting may_leave digests entries batch image = may_leave image ⊎ HoldsEither digests entries batch image

-- a crash at any moment of a call leaves all of a batch or none of it
abbrev pub AllOrNone : {D : Type 0} → Bool → (D → ℕ) → (D → ℕ → List ℕ → Type 0) → (D → List ℕ → Type 0) → List Entry → Journal D → Journal D → Type 0
AllOrNone told moment left_since may_leave batch old new =
    told ≡ true → has_failed old ≡ false → (digests : Digests) (version : Version) (entries : List Entry) →
    IsSettled told may_leave digests version entries old →
    LeavesOnly moment left_since (journal_disk old) (journal_disk new) (LeftByWriting (may_leave (journal_disk old)) digests entries batch)

-- the records that a call has written, or has failed to write
abbrev pub written_by : Shelved → ℕ → List Publication → Result (Vec Publish Global) NoMemory → List Entry
written_by shelf round publications (Ok answers) = records_of shelf round (answered_by is_written publications answers.items)
written_by shelf round publications (Err error) = []
