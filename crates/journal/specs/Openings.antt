-- What opening answers, and what a crash during it leaves.
use Rattle.std.specs.Prelude.{◌≡◌, ◌⊎◌, ℕ, List, [], Result, Ok, Err}
use Rattle.journal.specs.declared.digests.Digests.{Digests}
use Rattle.journal.specs.declared.digests.Version.{Version}
use Rattle.journal.specs.declared.digests.Version.TheVariants.{Second}
use Rattle.journal.specs.declared.fault.OpenFault.{OpenFault}
use Rattle.journal.specs.declared.fault.OpenFault.TheVariants.{Disk, NotDatabase, OtherSource, Damaged, NoMemory}
use Rattle.journal.specs.Format.{at_rest}
use Rattle.journal.specs.Headers.{header_of, IsUnfinished, IsForeign, HasOther, IsKnown}
use Rattle.journal.specs.Lists.{HoldsList}

-- what an image is opened as. A disk that fails and want of memory may come at any image.
abbrev pub Opens : Digests → List ℕ → {T : Type 0} → Result T OpenFault → Type 0
Opens digests image (Ok opened) = IsUnfinished image ⊎ ((version : Version) × IsKnown digests image version)
Opens digests image (Err NotDatabase) = IsForeign image
Opens digests image (Err (OtherSource stored wanted)) = HasOther digests image stored × (wanted ≡ digests.current)
Opens digests image (Err (Damaged at)) = ⊥
Opens digests image (Err Disk) = Unit {0}
Opens digests image (Err NoMemory) = Unit {0}

-- an unfinished header becomes a journal without records, and everything else stays
abbrev pub BecomesOpen : Digests → List ℕ → List ℕ → Type 0
BecomesOpen digests before now = (IsUnfinished before × (now ≡ at_rest (header_of Second digests.current) [])) ⊎ (now ≡ before)

-- a crash while a disk is opened leaves what one before it could leave, or a journal without records where the header was not finished
abbrev pub LeftByOpening : Digests → List ℕ → (List ℕ → Type 0) → List ℕ → Type 0
LeftByOpening digests before may_leave image = may_leave image ⊎ (IsUnfinished before × HoldsList digests [] image)

-- an answer that speaks of what the disk holds
abbrev pub RefusesContent : {T : Type 0} → Result T OpenFault → Type 0
RefusesContent (Err NotDatabase) = Unit {0}
RefusesContent (Err (OtherSource stored wanted)) = Unit {0}
RefusesContent other = ⊥

-- no record was read yet, so none is damaged
abbrev pub IsOpeningAnswer : {T : Type 0} → Result T OpenFault → Type 0
IsOpeningAnswer (Err (Damaged at)) = ⊥
IsOpeningAnswer other = Unit {0}

-- the disk as an opening hands it back, and its answer
abbrev pub handed_back : {D T : Type 0} → (T → D) → Result T (D × OpenFault) → D
handed_back disk_of (Ok opened) = disk_of opened
handed_back disk_of (Err (disk, fault)) = disk

abbrev pub answer_of : {D T : Type 0} → Result T (D × OpenFault) → Result T OpenFault
answer_of (Ok opened) = Ok opened
answer_of (Err (disk, fault)) = Err fault
