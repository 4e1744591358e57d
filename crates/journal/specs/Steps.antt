-- What the reading of one record answers.
use Rattle.std.specs.Prelude.{◌≡◌, ℕ, ◌+◌, ◌<◌, ◌≤◌, Bool, true, false, List, [], ◌∷◌, ◌++◌, length, drop, Result, Ok, Err}
use Rattle.journal.specs.declared.digests.Digests.{Digests}
use Rattle.journal.specs.declared.fault.OpenFault.{OpenFault}
use Rattle.journal.specs.declared.fault.OpenFault.TheVariants.{Disk, Damaged, NoMemory}
use Rattle.journal.specs.declared.kept.Kept.{Kept}
use Rattle.journal.specs.declared.scan.Scan.{Scan}
use Rattle.journal.specs.declared.scan.Step.{Step}
use Rattle.journal.specs.declared.scan.Step.TheVariants.{Closed, Record, Version}
use Rattle.journal.specs.Damages.{IsCutShort, IsMisplaced, IsDamaged}
use Rattle.journal.specs.Format.{Entry, bytes_of, IsClosed}
use Rattle.journal.specs.Lists.{is_version, version_entry}
use Rattle.journal.specs.Scans.{HasRead}

-- what a record says
abbrev pub entry_of : Kept → Entry
entry_of kept = record { round = kept.round; task = kept.task; body = kept.body.items }

-- this record stands behind the open gate at its offset, and its next gate in the image
pub record StandsAt (kept : Kept) (image : List ℕ) : Type 0 where
  pub whole : drop kept.at image ≡ (1 ∷ bytes_of (entry_of kept)) ++ drop (kept.at + 13 + length kept.body.items) image
  pub next : kept.at + 13 + length kept.body.items < length image

-- the record behind an open gate, or where there is none that is whole
abbrev pub IsRecordAt : List ℕ → ℕ → Result Kept OpenFault → Type 0
IsRecordAt image gate (Ok kept) = StandsAt kept image
IsRecordAt image gate (Err (Damaged at)) = IsCutShort (drop gate image)
IsRecordAt image gate (Err other) = Unit {0}

-- what is behind a gate, once these records were read
abbrev pub StepsOn : Digests → List Entry → Scan → List ℕ → Scan → Result Step OpenFault → Type 0
StepsOn digests entries old image new (Ok Closed) = IsClosed (drop old.at image) × (new ≡ old)
StepsOn digests entries old image new (Ok (Record kept)) = HasRead digests (entries ++ entry_of kept ∷ []) new image × (is_version (entry_of kept) ≡ false) × (kept.at ≡ old.at)
StepsOn digests entries old image new (Ok Version) = HasRead digests (entries ++ version_entry digests.current ∷ []) new image × (new.versioned ≡ true)
StepsOn digests entries old image new (Err (Damaged at)) = IsDamaged digests old.version entries image at × (at ≡ old.at)
StepsOn digests entries old image new (Err other) = Unit {0}

-- the same for a record that was read
abbrev pub Accepts : Digests → List Entry → Kept → List ℕ → Scan → Scan → Result Step OpenFault → Type 0
Accepts digests entries kept image old new (Ok Closed) = ⊥
Accepts digests entries kept image old new (Ok (Record same)) = (same ≡ kept) × HasRead digests (entries ++ entry_of kept ∷ []) new image × (is_version (entry_of kept) ≡ false)
Accepts digests entries kept image old new (Ok Version) = HasRead digests (entries ++ version_entry digests.current ∷ []) new image × (new.versioned ≡ true)
Accepts digests entries kept image old new (Err (Damaged at)) = IsMisplaced old.version digests.current entries (drop old.at image) × (at ≡ kept.at)
Accepts digests entries kept image old new (Err other) = ⊥

-- the answers that can come: only damage at this gate, a failed disk or want of memory
abbrev pub IsRecordAnswer : ℕ → Result Kept OpenFault → Type 0
IsRecordAnswer gate (Ok kept) = kept.at ≡ gate
IsRecordAnswer gate (Err (Damaged at)) = at ≡ gate
IsRecordAnswer gate (Err Disk) = Unit {0}
IsRecordAnswer gate (Err NoMemory) = Unit {0}
IsRecordAnswer gate (Err other) = ⊥

abbrev pub EndsInside : ℕ → Kept → Type 0
EndsInside size kept = kept.at + 13 + length kept.body.items < size

abbrev pub IsReadingFault : OpenFault → Type 0
IsReadingFault (Damaged at) = Unit {0}
IsReadingFault Disk = Unit {0}
IsReadingFault NoMemory = Unit {0}
IsReadingFault other = ⊥

abbrev pub IsStepAnswer : {T : Type 0} → Result T OpenFault → Type 0
IsStepAnswer (Ok step) = Unit {0}
IsStepAnswer (Err fault) = IsReadingFault fault

abbrev pub IsAcceptAnswer : Result Step OpenFault → Type 0
IsAcceptAnswer (Ok Closed) = ⊥
IsAcceptAnswer (Ok step) = Unit {0}
IsAcceptAnswer (Err (Damaged at)) = Unit {0}
IsAcceptAnswer (Err other) = ⊥

-- a version record is read once
abbrev pub IsOnce : Bool → Bool → Result Step OpenFault → Type 0
IsOnce before now (Ok Version) = (before ≡ false) × (now ≡ true)
IsOnce before now other = Unit {0}

-- where the gate is closed, the reading stays there
abbrev pub StopsAtClosed : Scan → List ℕ → Scan → Result Step OpenFault → Type 0
StopsAtClosed old image new (Ok Closed) = IsClosed (drop old.at image) × (new ≡ old)
StopsAtClosed old image new other = Unit {0}

-- a record that was read stands at the gate, and lies behind; nothing goes back
abbrev pub GoesFurther : Scan → Scan → Result Step OpenFault → Type 0
GoesFurther old new (Ok Closed) = old.at ≤ new.at
GoesFurther old new (Ok (Record kept)) = (kept.at ≡ old.at) × (new.at ≡ kept.at + 13 + length kept.body.items)
GoesFurther old new (Ok Version) = old.at < new.at
GoesFurther old new (Err fault) = Unit {0}
