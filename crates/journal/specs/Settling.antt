-- An image at rest, all of it on the disk.
use Rattle.std.specs.Prelude.{◌≡◌, ◌⊎◌, ℕ, Bool, true, false, List, [], ◌∷◌, ◌++◌, length, IsSome}
use Rattle.sv_outside.specs.Disk.{Only}
use Rattle.journal.specs.declared.digests.Digests.{Digests}
use Rattle.journal.specs.declared.digests.Version.{Version}
use Rattle.journal.specs.Format.{Entry, opened, Rests}
use Rattle.journal.specs.Headers.{digest_for, header_for}
use Rattle.journal.specs.Lists.{is_version, IsSized, AreFit, HoldsList}

-- each crash leaves one image: the header of this version, these records and a closed gate at this offset, and nothing
-- behind
pub record Settled (told : Bool) (may_leave : List ℕ → Type 0) (digests : Digests) (version : Version) (entries : List Entry) (gate : ℕ) : Type 0 where
  pub accepted : IsSome (digest_for digests version)
  pub fit : AreFit version digests.current entries
  pub gate_is : length (header_for digests version ++ opened entries) ≡ gate
  pub rests : told ≡ true → (image : List ℕ) × Rests (header_for digests version) entries image × Only image may_leave

-- a record of a round that a round may be, with numbers of four bytes
pub record IsPlain (entry : Entry) : Type 0 where
  pub sized : IsSized entry
  pub plain : is_version entry ≡ false

-- records that rounds may have, with numbers of four bytes
abbrev pub ArePlain : List Entry → Type 0
ArePlain [] = Unit {0}
ArePlain (entry ∷ entries) = IsPlain entry × ArePlain entries

-- an image that holds the records from before, or those and all of a batch
abbrev pub HoldsEither : Digests → List Entry → List Entry → List ℕ → Type 0
HoldsEither digests entries batch image = HoldsList digests entries image ⊎ HoldsList digests (entries ++ batch) image
