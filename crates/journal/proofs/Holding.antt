-- What an image at rest holds, and with one record more.
use Rattle.std.proofs.Common.{inl, inr, ℕ, ◌≤◌, ◌^◌, List, ◌++◌, length, IsSome}
use Rattle.journal.specs.declared.digests.Digests.{Digests}
use Rattle.journal.specs.declared.digests.Version.{Version}
use Rattle.journal.specs.Format.{Entry, Stands, IsBeforeOrAfter}
use Rattle.journal.specs.Headers.{digest_for, header_for}
use Rattle.journal.specs.Lists.{AreFit, HoldsList}
use Rattle.journal.specs.Settling.{HoldsEither}

pub holds : (digests : Digests) (version : Version) (entries : List Entry) (image : List ℕ) → IsSome (digest_for digests version) → AreFit version digests.current entries → length image ≤ 2 ^ 31 → Stands (header_for digests version) entries image → HoldsList digests entries image
holds digests version entries image accepted fit short stands = record { short = short; list = inr (version, record { accepted = accepted; stands = stands; fit = fit }) }

pub holds_either : (digests : Digests) (version : Version) (entries batch : List Entry) (image : List ℕ) → IsSome (digest_for digests version) → AreFit version digests.current entries → AreFit version digests.current (entries ++ batch)
    → IsBeforeOrAfter (header_for digests version) entries batch image → HoldsEither digests entries batch image
holds_either digests version entries batch image accepted fit fit' either = elim either.1 [
  | inl before ↦ inl (holds digests version entries image accepted fit either.0 before)
  | inr after ↦ inr (holds digests version (entries ++ batch) image accepted fit' either.0 after)
]
