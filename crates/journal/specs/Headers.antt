-- The header of a journal, and what an image begins with.
use Rattle.std.specs.Prelude.{◌≡◌, ◌≢◌, ◌⊎◌, ℕ, ◌<◌, ◌≤◌, List, [], ◌∷◌, ◌++◌, length, take, slice_index, Option, Some, None, IsSome, codes}
use Rattle.journal.specs.declared.digests.Digests.{Digests}
use Rattle.journal.specs.declared.digests.Version.{Version}
use Rattle.journal.specs.declared.digests.Version.TheVariants.{First, Second}
use Rattle.journal.specs.declared.header.Front.{Front}
use Rattle.journal.specs.declared.header.Front.TheVariants.{Unfinished, Foreign, Other, Known}

-- the bytes behind the first gate that name a version
abbrev pub name_of : Version → List ℕ
name_of First = codes "CGSURV1"
name_of Second = codes "CGSURV2"

-- an open gate, the name of the version and a digest
abbrev pub header_of : Version → List ℕ → List ℕ
header_of version digest = 1 ∷ (name_of version ++ digest)

-- the digest that a database of a version has to have
abbrev pub digest_for : Digests → Version → Option (List ℕ)
digest_for digests First = digests.old
digest_for digests Second = Some digests.current

abbrev pub header_with : Version → Option (List ℕ) → List ℕ
header_with version (Some digest) = header_of version digest
header_with version None = []

-- the header that opening accepts in a version, where there is one
abbrev pub header_for : Digests → Version → List ℕ
header_for digests version = header_with version (digest_for digests version)

-- nothing, one byte, or at most a header and a gate behind a first gate that is closed
abbrev pub IsUnfinished : List ℕ → Type 0
IsUnfinished image = (length image ≤ 1) ⊎ ((slice_index image 0 ≢ 1) × (length image ≤ 41))

-- more than the beginning of a header, and no header of either version
abbrev pub IsForeign : List ℕ → Type 0
IsForeign image = (1 < length image)
    × ((slice_index image 0 ≡ 1) ⊎ (41 < length image))
    × ((version : Version) (digest : List ℕ) → 41 ≤ length image → take 40 image ≢ header_of version digest)

-- a header with this digest, which is not the one that its version has to have
abbrev pub HasOther : Digests → List ℕ → List ℕ → Type 0
HasOther digests image stored = (version : Version)
    × (41 ≤ length image) × (take 40 image ≡ header_of version stored) × (digest_for digests version ≢ Some stored)

-- a header that opening accepts, and a gate
pub record IsKnown (digests : Digests) (image : List ℕ) (version : Version) : Type 0 where
  pub accepted : IsSome (digest_for digests version)
  pub long : 41 ≤ length image
  pub front : take 40 image ≡ header_for digests version

-- what an image begins with
abbrev pub BeginsWith : Digests → List ℕ → Front → Type 0
BeginsWith digests image Unfinished = IsUnfinished image
BeginsWith digests image Foreign = IsForeign image
BeginsWith digests image (Other stored) = HasOther digests image stored
BeginsWith digests image (Known version) = IsKnown digests image version

-- a header that opening accepts has a gate behind it, also on a disk that tells nothing
abbrev pub KnownIsLong : ℕ → Front → Type 0
KnownIsLong size (Known version) = 41 ≤ size
KnownIsLong size other = Unit {0}
