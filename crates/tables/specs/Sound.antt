-- What holds of tables between two calls.
use Rattle.std.specs.Prelude.{◌≡◌, ◌⊎◌, ℕ, ◌+◌, ◌-◌, ◌*◌, ◌<◌, ◌≤◌, ◌^◌, nat_lt, ◌&&◌, if◌then◌else◌, Bool, true, false, List, [], ◌∷◌, ◌++◌, length, Option, Some, None}
use Rattle.std.specs.Str.{bytes_eq}
use Rattle.journal.specs.Journals.{journal_disk, journal_gate, has_failed, IsJournal}
use Rattle.journal.specs.declared.journal.Journal.{Journal}
use Rattle.sv_outside.specs.Outside.{Rose}
use Rattle.lease_table.specs.Machine.{Machine, Holds, found_standing, Publishes as PublishesLease, Advances, Ends}
use Rattle.lease_table.specs.Standings.{AllDone}
use Rattle.lease_table.specs.declared.event.Event.{Event}
use Rattle.lease_table.specs.declared.event.Event.TheVariants.{Published}
use Rattle.lease_table.specs.declared.standing.Published.TheVariants.{Stored as Leased_out}
use Rattle.lease_table.specs.declared.standing.Standing.{Standing}
use Rattle.lease_table.specs.declared.standing.Standing.TheVariants.{Free, Leased, Done}
use Rattle.tables.specs.declared.publish.Publish.{Publish}
use Rattle.tables.specs.declared.publish.Publish.TheVariants.{Stored, Lost, Disk, Full, NoMemory}
use Rattle.tables.specs.declared.stop.Stop.{Stop}
use Rattle.tables.specs.declared.stop.Stop.TheVariants as stops
use Rattle.tables.specs.declared.tables.Tables.{Tables}
use Rattle.tables.specs.Shelves.{Shelved, artifact_at, shelved, begun}

-- whether a task of the round is done
abbrev pub has_done : List Standing → Bool
has_done [] = false
has_done (Free ∷ tasks) = has_done tasks
has_done (Leased ticket until ∷ tasks) = has_done tasks
has_done (Done ticket ∷ tasks) = true

-- each round before this one has a record of at least 13 bytes before that offset, and so has this one once a task is done
pub record Spaced (machine : Machine) (at : ℕ) : Type 0 where
  pub rounds : 13 * machine.round ≤ at
  pub begun : has_done machine.tasks ≡ true → 13 * (machine.round + 1) ≤ at

-- a round that goes on is done, and this is the number of the next
pub record BeginsNext (machine : Machine) (round : ℕ) : Type 0 where
  pub done : AllDone machine.tasks
  pub going : machine.ended ≡ false
  pub some : 0 < length machine.tasks
  pub next : round ≡ machine.round + 1

abbrev pub machine_of : {D W B V : Type 0} → Tables D W B V → Machine
machine_of tables = tables.rounds.machine

abbrev pub shelf_of : {D W B V : Type 0} → Tables D W B V → Shelved
shelf_of tables = tables.rounds.shelf

abbrev pub events_of : {D W B V : Type 0} → Tables D W B V → List Event
events_of tables = tables.rounds.events

abbrev pub journal_of : {D W B V : Type 0} → Tables D W B V → Journal D
journal_of tables = tables.journal

-- the disk when the tables were opened
abbrev pub opened_disk : {D W B V : Type 0} → Tables D W B V → D
opened_disk tables = tables.opening.disk.value

-- the journal can be written, and its records take more bytes than there are rounds. The disk has counted no fewer faults
-- than when the tables were opened, and more where the journal has failed.
pub record IsSound {D W B V : Type 0} (told : Bool) (seen : D → List ℕ) (faults : D → ℕ) (tables : Tables D W B V) : Type 0 where
  pub journal : IsJournal told seen (journal_of tables)
  pub spaced : Spaced (machine_of tables) (journal_gate (journal_of tables))
  pub later : faults (opened_disk tables) ≤ faults (journal_disk (journal_of tables))
  pub risen : has_failed (journal_of tables) ≡ true → Rose (faults (opened_disk tables)) (faults (journal_disk (journal_of tables)))

-- whether the task has this artifact in the round before
abbrev pub is_repeated : Shelved → ℕ → ℕ → List ℕ → Bool
is_repeated shelf round task artifact = nat_lt 0 round && is_artifact (artifact_at shelf (round - 1) task) artifact
  where
    is_artifact : Option (List ℕ) → List ℕ → Bool
    is_artifact None artifact = false
    is_artifact (Some before) artifact = bytes_eq before artifact

-- the body of the record of an artifact
abbrev pub record_body : Shelved → ℕ → ℕ → List ℕ → List ℕ
record_body shelf round task artifact = if is_repeated shelf round task artifact then 6 ∷ [] else artifact

-- the length of the image with the record of an artifact
abbrev pub record_size : {D W B V : Type 0} → Tables D W B V → ℕ → ℕ → List ℕ → ℕ
record_size tables round task artifact = journal_gate (journal_of tables) + length (record_body (shelf_of tables) round task artifact) + 14

-- why a record with which the image would have that many bytes was not written
abbrev pub StopsAt : ℕ → Stop → Type 0
StopsAt size stops.Disk = size ≤ 2 ^ 31
StopsAt size (stops.Full needed) = (needed ≡ size) × (2 ^ 31 < size)
StopsAt size stops.NoMemory = size ≤ 2 ^ 31

-- why a publication was refused: a call of the disk has failed, or the image would be too long
abbrev pub HasCause : Bool → Publish → Type 0
HasCause failed Disk = failed ≡ true
HasCause failed (Full size) = 2 ^ 31 < size
HasCause failed Stored = Unit {0}
HasCause failed (Lost round standing) = Unit {0}
HasCause failed NoMemory = Unit {0}

-- the same but for what may have been written
abbrev pub SameRounds : {D W B V : Type 0} → Tables D W B V → Tables D W B V → Type 0
SameRounds old new = (machine_of new ≡ machine_of old) × (shelf_of new ≡ shelf_of old) × (events_of new ≡ events_of old)

-- what a publication answers, and what it leaves
abbrev pub Publishes : {D W B V : Type 0} → ℕ → ℕ → ℕ → List ℕ → Tables D W B V → Publish → Tables D W B V → Type 0
Publishes round task ticket artifact old Stored new =
    PublishesLease round task ticket (machine_of old) Leased_out (machine_of new) × (shelf_of new ≡ shelved (shelf_of old) task artifact)
    × (events_of new ≡ events_of old ++ Published round task ticket ∷ [])
    × (journal_gate (journal_of new) + 1 ≡ record_size old round task artifact) × (record_size old round task artifact ≤ 2 ^ 31)
Publishes round task ticket artifact old (Lost now standing) new =
    (Holds (machine_of old) round task ticket → ⊥) × (now ≡ (machine_of old).round) × (standing ≡ found_standing (machine_of old) round task) × (new ≡ old)
Publishes round task ticket artifact old Disk new = Holds (machine_of old) round task ticket × StopsAt (record_size old round task artifact) stops.Disk × SameRounds old new
Publishes round task ticket artifact old (Full size) new = Holds (machine_of old) round task ticket × StopsAt (record_size old round task artifact) (stops.Full size) × SameRounds old new
Publishes round task ticket artifact old NoMemory new = Holds (machine_of old) round task ticket × StopsAt (record_size old round task artifact) stops.NoMemory × SameRounds old new

-- the next round, of at least one task, or the end after the last
abbrev pub FollowsRound : {D W B V : Type 0} → Tables D W B V → Tables D W B V → Type 0
FollowsRound old new =
    ((tasks : ℕ) × (0 < tasks) × Advances tasks (machine_of old) (machine_of new) × (shelf_of new ≡ begun (shelf_of old) tasks))
    ⊎ (Ends (machine_of old) (machine_of new) × (shelf_of new ≡ shelf_of old))
