-- The list of records that an image holds.
use Rattle.std.specs.Prelude.{◌≡◌, ◌⊎◌, ◌==◌, ℕ, ◌+◌, ◌^◌, ◌<◌, ◌≤◌, nat_le, Bool, true, false, not, List, [], ◌∷◌, ◌++◌, length, IsSome}
use Rattle.std.specs.List.{filter}
use Rattle.journal.specs.declared.digests.Digests.{Digests}
use Rattle.journal.specs.declared.digests.Version.{Version}
use Rattle.journal.specs.declared.digests.Version.TheVariants.{First, Second}
use Rattle.journal.specs.Format.{Entry, Stands}
use Rattle.journal.specs.Headers.{digest_for, header_for, IsUnfinished}

-- a record of the round that no round is
abbrev pub is_version : Entry → Bool
is_version e = e.round == 4294967295

-- the record that says that a database of version 1 is read by version 2
abbrev pub version_entry : List ℕ → Entry
version_entry current = record { round = 4294967295; task = 2; body = current }

abbrev pub versions : List Entry → List Entry
versions entries = filter is_version entries

-- the records that are no version records
abbrev pub ordinary : List Entry → List Entry
ordinary entries = filter (λ e. not (is_version e)) entries

-- its numbers have four bytes each
pub record IsSized (entry : Entry) : Type 0 where
  pub round : entry.round < 2 ^ 32
  pub task : entry.task < 2 ^ 32
  pub body : length entry.body < 2 ^ 32

abbrev pub AreSized : List Entry → Type 0
AreSized [] = Unit {0}
AreSized (entry ∷ entries) = IsSized entry × AreSized entries

-- version 1 may have one version record, of the current digest, and version 2 none
abbrev pub VersionsFit : Version → List ℕ → List Entry → Type 0
VersionsFit First current found = (found ≡ []) ⊎ (found ≡ version_entry current ∷ [])
VersionsFit Second current found = found ≡ []

-- records that may stand in a database of this version
pub record AreFit (version : Version) (current : List ℕ) (entries : List Entry) : Type 0 where
  pub sized : AreSized entries
  pub versions_fit : VersionsFit version current (versions entries)

-- behind a header that opening accepts stand these records, and then a closed gate
pub record IsDatabase (digests : Digests) (entries : List Entry) (image : List ℕ) (version : Version) : Type 0 where
  pub accepted : IsSome (digest_for digests version)
  pub stands : Stands (header_for digests version) entries image
  pub fit : AreFit version digests.current entries

-- what an image holds: nothing, where its header was not finished, or the records behind its header
pub record HoldsList (digests : Digests) (entries : List Entry) (image : List ℕ) : Type 0 where
  pub short : length image ≤ 2 ^ 31
  pub list : (IsUnfinished image × (entries ≡ [])) ⊎ ((version : Version) × IsDatabase digests entries image version)

-- a database of version 1 that has no version record and has room for one behind this gate
abbrev pub wants_version : Version → List Entry → ℕ → Bool
wants_version First [] gate = nat_le (gate + 46) (2 ^ 31)
wants_version version found gate = false

-- the records, with the version record behind them if so
abbrev pub with_version : Bool → List ℕ → List Entry → List Entry
with_version true current entries = entries ++ version_entry current ∷ []
with_version false current entries = entries
