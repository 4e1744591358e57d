-- What becomes of the end of an image.
use Rattle.std.specs.Prelude.{◌≡◌, ◌≢◌, ◌⊎◌, ℕ, ◌≤◌, List, [], ◌∷◌, ◌++◌, length, take, drop}
use Rattle.journal.specs.declared.digests.Digests.{Digests}
use Rattle.journal.specs.declared.digests.Version.{Version}
use Rattle.journal.specs.Format.{Entry, IsClosed}
use Rattle.journal.specs.Lists.{IsDatabase}

-- the same up to this gate, which is closed, and no longer
pub record EndsThere (gate : ℕ) (image now : List ℕ) : Type 0 where
  pub front : take gate now ≡ take gate image
  pub closed : IsClosed (drop gate now)
  pub no_longer : length now ≤ length image

-- the same up to this gate, which is closed and the last byte
pub record IsCutAt (gate : ℕ) (image now : List ℕ) : Type 0 where
  pub last : ℕ
  pub shut : last ≢ 1
  pub whole : now ≡ take gate image ++ last ∷ []

-- no longer than the image, and a database of the same version and records
pub record SharesList (digests : Digests) (image now : List ℕ) : Type 0 where
  pub version : Version
  pub entries : List Entry
  pub before : IsDatabase digests entries image version
  pub after : IsDatabase digests entries now version
  pub no_longer : length now ≤ length image

-- what a crash while an image is read leaves: the image, or one that shares its list
abbrev pub LeftByReading : Digests → List ℕ → List ℕ → Type 0
LeftByReading digests image now = (now ≡ image) ⊎ SharesList digests image now
