-- What tables hold that were read back from the records of an image.
use Rattle.std.specs.Prelude.{◌≡◌, ◌⊎◌, ℕ, ◌-◌, nat_lt, if◌then◌else◌, Bool, List, [], ◌∷◌, Option, Some, None}
use Rattle.std.specs.Str.{bytes_eq}
use Rattle.journal.specs.declared.digests.Digests.{Digests}
use Rattle.journal.specs.declared.digests.Version.{Version}
use Rattle.journal.specs.declared.reader.Reading.{Reading}
use Rattle.journal.specs.Format.{Entry, Stands}
use Rattle.journal.specs.Headers.{header_for}
use Rattle.journal.specs.Journals.{IsSettled}
use Rattle.journal.specs.Lists.{ordinary, with_version}
use Rattle.journal.specs.Openings.{BecomesOpen}
use Rattle.journal.specs.Readings.{reading_version, EndsWith}
use Rattle.lease_table.specs.Machine.{Keeps}
use Rattle.tables.specs.declared.tables.Tables.{Tables}
use Rattle.tables.specs.declared.work.Next.{Next}
use Rattle.tables.specs.Rounds.{Rounded, Begins, Follows}
use Rattle.tables.specs.Shelves.{Shelved, artifact_at, shelved}
use Rattle.tables.specs.Sound.{BeginsNext, journal_of}

-- the artifact that the body of a record stands for: itself, or where it is the single byte 6 that of the same task in the
-- round before
abbrev pub artifact_in : Shelved → ℕ → ℕ → List ℕ → Option (List ℕ)
artifact_in shelf round task body = if bytes_eq body (6 ∷ []) then artifact_before shelf round task else Some body
  where
    artifact_before : Shelved → ℕ → ℕ → Option (List ℕ)
    artifact_before shelf round task = if nat_lt 0 round then artifact_at shelf (round - 1) task else None

-- the rounds in which a record of this round stands: those that there are, or where it is of the next round those with it
abbrev pub ComesTo : {B : Type 0} → ℕ → Rounded B → Rounded B → Type 0
ComesTo {B} round old new = (new ≡ old) ⊎ (BeginsNext old.machine round × ((next : Next B) × Follows next old new))

-- the rounds with one more record: its task stood free in its round, and its artifact is on the shelf
pub record Takes {B : Type 0} (entry : Entry) (old new : Rounded B) : Type 0 where
  pub begun : Rounded B
  pub comes_to : ComesTo entry.round old begun
  pub round : entry.round ≡ begun.machine.round
  pub keeps : Keeps entry.task begun.machine new.machine
  pub artifact : List ℕ
  pub stands_for : artifact_in begun.shelf entry.round entry.task entry.body ≡ Some artifact
  pub shelf : new.shelf ≡ shelved begun.shelf entry.task artifact

-- the same for records in order
abbrev pub TakesAll : {B : Type 0} → List Entry → Rounded B → Rounded B → Type 0
TakesAll [] old new = new ≡ old
TakesAll {B} (entry ∷ entries) old new = (middle : Rounded B) × Takes entry old middle × TakesAll entries middle new

-- the rounds to which these records lead from the first one
abbrev pub LeadTo : {B : Type 0} → List Entry → Rounded B → Type 0
LeadTo {B} entries rounds = (first : Next B) × (start : Rounded B) × Begins first start × TakesAll entries start rounds

-- these records stand in the image that was read, to its end, and lead to these rounds
pub record IsReadBack {B D : Type 0} (told : Bool) (may_leave : D → List ℕ → Type 0) (digests : Digests) (image : List ℕ) (reading : Reading D) (rounds : Rounded B) : Type 0 where
  pub entries : List Entry
  pub stands : Stands (header_for digests (reading_version reading)) entries image
  pub ends : EndsWith told may_leave digests entries reading
  pub lead : LeadTo (ordinary entries) rounds

-- the tables hold what the records of the image as it was opened lead to, and each crash leaves those records, maybe with a
-- version record behind
pub record IsReplayed {D W B V : Type 0} (told : Bool) (may_leave : D → List ℕ → Type 0) (digests : Digests) (before : List ℕ) (tables : Tables D W B V) : Type 0 where
  pub image : List ℕ
  pub becomes : BecomesOpen digests before image
  pub version : Version
  pub entries : List Entry
  pub stands : Stands (header_for digests version) entries image
  pub lead : LeadTo (ordinary entries) tables.rounds
  pub has_version : Bool
  pub settled : IsSettled told may_leave digests version (with_version has_version digests.current entries) (journal_of tables)
