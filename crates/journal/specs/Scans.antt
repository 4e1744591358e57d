-- How far an image was read.
use Rattle.std.specs.Prelude.{◌≡◌, ℕ, ◌^◌, ◌<◌, List, [], ◌∷◌, ◌++◌, length, take, IsSome, if◌then◌else◌}
use Rattle.journal.specs.declared.digests.Digests.{Digests}
use Rattle.journal.specs.declared.scan.Scan.{Scan}
use Rattle.journal.specs.Format.{Entry, opened}
use Rattle.journal.specs.Headers.{digest_for, header_for}
use Rattle.journal.specs.Lists.{AreFit, versions, version_entry}

-- behind a header that opening accepts these records were read, and the next gate lies in the image
pub record HasRead (digests : Digests) (entries : List Entry) (scan : Scan) (image : List ℕ) : Type 0 where
  pub accepted : IsSome (digest_for digests scan.version)
  pub current : scan.current ≡ digests.current
  pub fit : AreFit scan.version digests.current entries
  pub versioned : versions entries ≡ (if scan.versioned then version_entry digests.current ∷ [] else [])
  pub size : scan.size ≡ length image
  pub front : take scan.at image ≡ header_for digests scan.version ++ opened entries

-- the next gate lies in an image, and not past the greatest length
pub record IsInside (scan : Scan) : Type 0 where
  pub inside : scan.at < scan.size
  pub near : scan.at < 2 ^ 31
