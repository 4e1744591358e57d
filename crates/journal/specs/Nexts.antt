-- What the reading of the next record answers, version records aside.
use Rattle.std.specs.Prelude.{◌≡◌, ℕ, ◌+◌, ◌≤◌, false, List, [], ◌∷◌, ◌++◌, length, drop, Option, Some, None, Result, Ok, Err}
use Rattle.journal.specs.declared.digests.Digests.{Digests}
use Rattle.journal.specs.declared.digests.Version.{Version}
use Rattle.journal.specs.declared.fault.OpenFault.{OpenFault}
use Rattle.journal.specs.declared.fault.OpenFault.TheVariants.{Disk, Damaged}
use Rattle.journal.specs.declared.kept.Kept.{Kept}
use Rattle.journal.specs.declared.scan.Scan.{Scan}
use Rattle.journal.specs.Endings.{IsCutAt}
use Rattle.journal.specs.Damages.{IsDamaged}
use Rattle.journal.specs.Format.{Entry, opened, IsClosed}
use Rattle.journal.specs.Headers.{header_for}
use Rattle.journal.specs.Lists.{is_version, ordinary}
use Rattle.journal.specs.Scans.{HasRead}
use Rattle.journal.specs.Steps.{entry_of}

-- this record was read, at its offset, after these and maybe a version record
pub record HandsOut (digests : Digests) (entries : List Entry) (version : Version) (kept : Kept) (image : List ℕ) (new : Scan) : Type 0 where
  pub passed : List Entry
  pub no_more : ordinary passed ≡ []
  pub plain : is_version (entry_of kept) ≡ false
  pub read : HasRead digests ((entries ++ passed) ++ entry_of kept ∷ []) new image
  pub at : length (header_for digests version ++ opened (entries ++ passed)) ≡ kept.at

-- after these records, and maybe a version record, stands a closed gate
pub record ComesToEnd (digests : Digests) (entries : List Entry) (image : List ℕ) (new : Scan) : Type 0 where
  pub passed : List Entry
  pub no_more : ordinary passed ≡ []
  pub read : HasRead digests (entries ++ passed) new image
  pub closed : IsClosed (drop new.at image)

-- after these records, and maybe a version record, stands a damaged one at this offset
pub record ComesToDamage (digests : Digests) (entries : List Entry) (version : Version) (image : List ℕ) (at : ℕ) : Type 0 where
  pub passed : List Entry
  pub no_more : ordinary passed ≡ []
  pub damaged : IsDamaged digests version (entries ++ passed) image at

abbrev pub ReadsOn : Digests → List Entry → Version → List ℕ → Scan → Result (Option Kept) OpenFault → Type 0
ReadsOn digests entries version image new (Ok (Some kept)) = HandsOut digests entries version kept image new
ReadsOn digests entries version image new (Ok None) = ComesToEnd digests entries image new
ReadsOn digests entries version image new (Err (Damaged at)) = ComesToDamage digests entries version image at
ReadsOn digests entries version image new (Err other) = Unit {0}

-- the same, and what becomes of the disk: at the end the image is cut behind the closed gate
abbrev pub AdvancesTo : Digests → List Entry → Version → List ℕ → Scan → List ℕ → Result (Option Kept) OpenFault → Type 0
AdvancesTo digests entries version image new now (Ok (Some kept)) = HandsOut digests entries version kept image new
AdvancesTo digests entries version image new now (Ok None) = ComesToEnd digests entries image new × IsCutAt new.at image now
AdvancesTo digests entries version image new now (Err (Damaged at)) = ComesToDamage digests entries version image at
AdvancesTo digests entries version image new now (Err other) = Unit {0}

-- unless the end was reached or the disk failed
abbrev pub UnlessDone : Result (Option Kept) OpenFault → Type 0 → Type 0
UnlessDone (Ok None) P = Unit {0}
UnlessDone (Err Disk) P = Unit {0}
UnlessDone other P = P

-- where the end was reached
abbrev pub IfEnded : Result (Option Kept) OpenFault → Type 0 → Type 0
IfEnded (Ok None) P = P
IfEnded other P = Unit {0}

-- a record that was read lies behind, and at least its 13 bytes and its body were passed; nothing goes back
abbrev pub PassesOn : Scan → Scan → Result (Option Kept) OpenFault → Type 0
PassesOn old new (Ok (Some kept)) = (old.at ≤ kept.at) × (new.at ≡ kept.at + 13 + length kept.body.items)
PassesOn old new (Ok None) = old.at ≤ new.at
PassesOn old new (Err fault) = Unit {0}
