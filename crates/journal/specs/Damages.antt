-- What is damaged in an image, and where.
use Rattle.std.specs.Prelude.{◌≡◌, ◌⊎◌, ℕ, ◌^◌, ◌<◌, List, [], ◌∷◌, ◌++◌, length, take, drop}
use Rattle.journal.specs.declared.digests.Digests.{Digests}
use Rattle.journal.specs.declared.digests.Version.{Version}
use Rattle.journal.specs.Format.{Entry, bytes_of, opened, IsOpen}
use Rattle.journal.specs.Headers.{header_for}
use Rattle.journal.specs.Lists.{IsSized, AreFit}

-- behind this open gate stands no record that ends, with its next gate, inside the image
abbrev pub IsCutShort : List ℕ → Type 0
IsCutShort tail = (entry : Entry) (rest : List ℕ) → IsSized entry → tail ≡ (1 ∷ bytes_of entry) ++ rest → rest ≡ []

-- behind this open gate stands a record that may not follow these
abbrev pub IsMisplaced : Version → List ℕ → List Entry → List ℕ → Type 0
IsMisplaced version current entries tail = (entry : Entry) × (rest : List ℕ) × IsSized entry × (tail ≡ (1 ∷ bytes_of entry) ++ rest) × (AreFit version current (entries ++ entry ∷ []) → ⊥)

-- behind these records, which are right, stands an open gate at this offset, and the image is too long, or what stands
-- behind the gate is no record that may stand there
pub record IsDamaged (digests : Digests) (version : Version) (entries : List Entry) (image : List ℕ) (at : ℕ) : Type 0 where
  pub front : take at image ≡ header_for digests version ++ opened entries
  pub fit : AreFit version digests.current entries
  pub gate : IsOpen (drop at image)
  pub cause : (2 ^ 31 < length image) ⊎ (IsCutShort (drop at image) ⊎ IsMisplaced version digests.current entries (drop at image))
