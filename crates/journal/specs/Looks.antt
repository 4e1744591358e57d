-- What looking at a disk answers.
use Rattle.std.specs.Prelude.{◌≡◌, ◌⊎◌, ◌==◌, ◌&&◌, ℕ, ◌+◌, Bool, false, not, if◌then◌else◌, List, [], ◌∷◌, ◌++◌, length, map, filter, find, Option, Some, None, Result, Ok, Err, Vec}
use Rattle.std.specs.declared.alloc.Global.{Global}
use Rattle.journal.specs.declared.digests.Digests.{Digests}
use Rattle.journal.specs.declared.digests.Version.{Version}
use Rattle.journal.specs.declared.fault.OpenFault.{OpenFault}
use Rattle.journal.specs.declared.fault.OpenFault.TheVariants.{Disk, NotDatabase, OtherSource, Damaged, NoMemory}
use Rattle.journal.specs.declared.kept.Kept.{Kept}
use Rattle.journal.specs.Damages.{IsDamaged}
use Rattle.journal.specs.Format.{Entry}
use Rattle.journal.specs.Headers.{header_for, IsUnfinished, IsForeign, HasOther, IsKnown}
use Rattle.journal.specs.Lists.{is_version, IsDatabase}
use Rattle.journal.specs.Steps.{entry_of}

-- each record with the offset of its gate, where the first gate stands at this offset
abbrev pub placed : ℕ → List Entry → List (ℕ × Entry)
placed at [] = []
placed at (entry ∷ entries) = (at, entry) ∷ placed (at + 13 + length entry.body) entries

-- those that are no version records
abbrev pub handed : ℕ → List Entry → List (ℕ × Entry)
handed at entries = filter (λ p. not (is_version p.1)) (placed at entries)

-- the body that stands for the one of the round before
abbrev pub is_short : List ℕ → Bool
is_short [] = false
is_short (byte ∷ []) = byte == 6
is_short (byte ∷ more ∷ rest) = false

-- the first of these records of the same task in the round before
abbrev pub one_before : List Entry → Entry → Option Entry
one_before given entry = find (λ e. (e.round + 1 == entry.round) && (e.task == entry.task)) given

abbrev pub body_or : List ℕ → Option Entry → List ℕ
body_or body None = body
body_or body (Some entry) = entry.body

-- a record, with the body that a short one stands for, where there is one
abbrev pub filled : List Entry → Entry → Entry
filled given entry = record entry { body = if is_short entry.body then body_or entry.body (one_before given entry) else entry.body }

-- the records, each filled from those given before it
abbrev pub filled_from : List Entry → List Entry → List Entry
filled_from given [] = []
filled_from given (entry ∷ entries) = filled given entry ∷ filled_from (given ++ filled given entry ∷ []) entries

-- these records of an image in this version are given, in order, with their offsets and with their bodies filled
abbrev pub Lists : Digests → Version → List Entry → List Kept → Type 0
Lists digests version entries records =
    let all = handed (length (header_for digests version)) entries in
    (map (λ k. k.at) records ≡ map (λ p. p.0) all) × (map entry_of records ≡ filled_from [] (map (λ p. p.1) all))

-- the records of an image with this header, or where the first damage is
abbrev pub ReadsAll : Digests → Version → List ℕ → Result (Vec Kept Global) OpenFault → Type 0
ReadsAll digests version image (Ok records) = (entries : List Entry) × IsDatabase digests entries image version × Lists digests version entries records.items
ReadsAll digests version image (Err (Damaged at)) = (entries : List Entry) × IsDamaged digests version entries image at
ReadsAll digests version image (Err other) = Unit {0}

-- what looking at an image answers. A disk that fails and want of memory may come at any image.
abbrev pub Looks : Digests → List ℕ → Result (Vec Kept Global) OpenFault → Type 0
Looks digests image (Ok records) = (IsUnfinished image × (records.items ≡ [])) ⊎ ((version : Version) × IsKnown digests image version × ReadsAll digests version image (Ok records))
Looks digests image (Err NotDatabase) = IsForeign image
Looks digests image (Err (OtherSource stored wanted)) = HasOther digests image stored × (wanted ≡ digests.current)
Looks digests image (Err (Damaged at)) = (version : Version) × IsKnown digests image version × ReadsAll digests version image (Err (Damaged at))
Looks digests image (Err Disk) = Unit {0}
Looks digests image (Err NoMemory) = Unit {0}
