-- Where the reading of an image ends.
use Rattle.std.proofs.Common.{◌≡◌, ℕ, ◌+◌, ◌≤◌, ◌<◌, List, [], ◌∷◌, ◌++◌, length, take, drop, sym, ◌∙◌, ap, arith, take-append-drop, length-append, length-take}
use Rattle.journal.specs.declared.digests.Digests.{Digests}
use Rattle.journal.specs.declared.scan.Scan.{Scan}
use Rattle.journal.specs.Endings.{EndsThere, IsCutAt, SharesList}
use Rattle.journal.specs.Format.{Entry, opened, IsClosed, Stands, Rests}
use Rattle.journal.specs.Headers.{header_for}
use Rattle.journal.specs.Scans.{HasRead}

pub stands_at : (header : List ℕ) (entries : List Entry) (at : ℕ) (image : List ℕ) → take at image ≡ header ++ opened entries → IsClosed (drop at image) → Stands header entries image
stands_at header entries at image front closed = (drop at image, sym (take-append-drop at image) ∙ ap (λ (l : List ℕ). l ++ drop at image) front, closed)

module _ (digests : Digests) (entries : List Entry) (scan : Scan) (image : List ℕ) (read : HasRead digests entries scan image) where
  pub ends_share : (c : List ℕ) → IsClosed (drop scan.at image) → EndsThere scan.at image c → SharesList digests image c
  ends_share c closed ends = record {
    version = scan.version;
    entries = entries;
    before = record { accepted = read.accepted; stands = stands_at (header_for digests scan.version) entries scan.at image read.front closed; fit = read.fit };
    after = record { accepted = read.accepted; stands = stands_at (header_for digests scan.version) entries scan.at c (ends.front ∙ read.front) ends.closed; fit = read.fit };
    no_longer = ends.no_longer;
  }

  pub cut_rests : (now : List ℕ) → IsCutAt scan.at image now → Rests (header_for digests scan.version) entries now
  cut_rests now cut = record { last = cut.last; shut = cut.shut; whole = cut.whole ∙ ap (λ (l : List ℕ). l ++ cut.last ∷ []) read.front }

pub cut_long : (gate : ℕ) (image now : List ℕ) → gate < length image → IsCutAt gate image now → gate + 1 ≤ length now
cut_long gate image now inside cut = omega (arith, inside, ap length cut.whole, length-append (take gate image) (cut.last ∷ []), length-take gate image)
