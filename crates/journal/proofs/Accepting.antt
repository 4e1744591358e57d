-- One record more that was read.
use Rattle.std.proofs.Common.{◌≡◌, inl, inr, ℕ, ◌+◌, ◌-◌, Bool, true, false, if◌then◌else◌, cond, List, [], ◌∷◌, ◌++◌, length, take, drop, refl, sym, ◌∙◌, ap, subst, arith, append_assoc}
use Rattle.std.proofs.lemmas.List.{append-nil, take_at}
use Rattle.std.proofs.lemmas.List.Elements.{filter-append}
use Rattle.journal.specs.declared.digests.Digests.{Digests}
use Rattle.journal.specs.declared.digests.Version.{Version}
use Rattle.journal.specs.declared.digests.Version.TheVariants.{First, Second}
use Rattle.journal.specs.declared.scan.Scan.{Scan}
use Rattle.journal.specs.Format.{Entry, bytes_of, opened}
use Rattle.journal.specs.Lists.{is_version, versions, version_entry, IsSized, AreSized, VersionsFit, AreFit}
use Rattle.journal.specs.Scans.{HasRead}
use Rattle.journal.specs.Settling.{ArePlain}
use Rattle.journal.specs.Headers.{header_for}
use Rattle.journal.proofs.Crash.{front-push}
use Rattle.journal.proofs.Pages.{take_split}

pub sized_push : (entries : List Entry) (entry : Entry) → AreSized entries → IsSized entry → AreSized (entries ++ entry ∷ [])
sized_push [] entry all one = (one, tt)
sized_push (e ∷ es) entry all one = (all.0, sized_push es entry all.1 one)

pub versions-plain : (entries : List Entry) (entry : Entry) → is_version entry ≡ false → versions (entries ++ entry ∷ []) ≡ versions entries
versions-plain entries entry plain =
    let none : versions (entry ∷ []) ≡ [] = ap (λ b. cond b (entry ∷ []) []) plain in
    filter-append is_version entries (entry ∷ []) ∙ (ap (λ (l : List Entry). versions entries ++ l) none ∙ append-nil (versions entries))

pub versions-more : (entries : List Entry) (entry : Entry) → is_version entry ≡ true → versions (entries ++ entry ∷ []) ≡ versions entries ++ entry ∷ []
versions-more entries entry is =
    let one : versions (entry ∷ []) ≡ entry ∷ [] = ap (λ b. cond b (entry ∷ []) []) is in
    filter-append is_version entries (entry ∷ []) ∙ ap (λ (l : List Entry). versions entries ++ l) one

pub fit_plain : (version : Version) (current : List ℕ) (entries : List Entry) (entry : Entry) → AreFit version current entries → IsSized entry → is_version entry ≡ false → AreFit version current (entries ++ entry ∷ [])
fit_plain version current entries entry fit sized plain = record {
  sized = sized_push entries entry fit.sized sized;
  versions_fit = subst (VersionsFit version current) (sym (versions-plain entries entry plain)) fit.versions_fit;
}

-- a batch more
pub fit_batch : (version : Version) (current : List ℕ) (entries batch : List Entry) → AreFit version current entries → ArePlain batch → AreFit version current (entries ++ batch)
fit_batch version current entries [] fit plain = subst (AreFit version current) (sym (append-nil entries)) fit
fit_batch version current entries (e ∷ es) fit plain =
    subst (AreFit version current) (append_assoc entries (e ∷ []) es) (fit_batch version current (entries ++ e ∷ []) es (fit_plain version current entries e fit plain.0.sized plain.0.plain) plain.1)

-- the front with one record more
pub front_more : (header : List ℕ) (entries : List Entry) (entry : Entry) (image : List ℕ) (at : ℕ) → take at image ≡ header ++ opened entries → drop at image ≡ (1 ∷ bytes_of entry) ++ drop (at + 13 + length entry.body) image
    → take (at + 13 + length entry.body) image ≡ header ++ opened (entries ++ entry ∷ [])
front_more header entries entry image at front whole =
    let end = at + 13 + length entry.body in
    let record_bytes : List ℕ = 1 ∷ bytes_of entry in
    let size : length record_bytes ≡ end - at = omega arith in
    let back : take (end - at) (drop at image) ≡ record_bytes = ap (take (end - at)) whole ∙ take_at record_bytes (drop end image) (end - at) size in
    let pushed : header ++ opened (entries ++ entry ∷ []) ≡ (header ++ opened entries) ++ record_bytes =
    sym (append-nil (header ++ opened (entries ++ entry ∷ []))) ∙ (front-push header entries entry [] ∙ ap (λ (l : List ℕ). (header ++ opened entries) ++ l) (append-nil record_bytes)) in
    take_split image at end (omega arith) ∙ ((λ i. front i ++ back i) ∙ sym pushed)

-- a plain record was read
pub read_plain : (digests : Digests) (entries : List Entry) (entry : Entry) (scan new : Scan) (image : List ℕ) → HasRead digests entries scan image → IsSized entry → is_version entry ≡ false
    → drop scan.at image ≡ (1 ∷ bytes_of entry) ++ drop (scan.at + 13 + length entry.body) image
    → new ≡ record scan { at = scan.at + 13 + length entry.body } → HasRead digests (entries ++ entry ∷ []) new image
read_plain digests entries entry scan new image read sized plain whole is = subst (λ (s : Scan). HasRead digests (entries ++ entry ∷ []) s image) (sym is) (record {
  accepted = read.accepted;
  current = read.current;
  fit = fit_plain scan.version digests.current entries entry read.fit sized plain;
  versioned = versions-plain entries entry plain ∙ read.versioned;
  size = read.size;
  front = front_more (header_for digests scan.version) entries entry image scan.at read.front whole;
})

-- the version record was read
pub read_version : (digests : Digests) (entries : List Entry) (entry : Entry) (scan new : Scan) (image : List ℕ) → HasRead digests entries scan image → IsSized entry
    → scan.version ≡ First → scan.versioned ≡ false → entry ≡ version_entry digests.current
    → drop scan.at image ≡ (1 ∷ bytes_of entry) ++ drop (scan.at + 13 + length entry.body) image
    → new ≡ record scan { at = scan.at + 13 + length entry.body; versioned = true } → HasRead digests (entries ++ version_entry digests.current ∷ []) new image
read_version digests entries entry scan new image read sized first none right whole is =
    let found : versions entries ≡ [] = read.versioned ∙ ap (λ b. if b then version_entry digests.current ∷ [] else []) none in
    let all : versions (entries ++ entry ∷ []) ≡ version_entry digests.current ∷ [] =
    versions-more entries entry (ap is_version right) ∙ ((λ i. found i ++ entry ∷ []) ∙ ap (λ (e : Entry). e ∷ []) right) in
    subst (λ (e : Entry). HasRead digests (entries ++ e ∷ []) new image) right (subst (λ (s : Scan). HasRead digests (entries ++ entry ∷ []) s image) (sym is) (record {
      accepted = read.accepted;
      current = read.current;
      fit = record {
        sized = sized_push entries entry read.fit.sized sized;
        versions_fit = subst (λ (v : Version). VersionsFit v digests.current (versions (entries ++ entry ∷ []))) (sym first) (inr all);
      };
      versioned = all;
      size = read.size;
      front = front_more (header_for digests scan.version) entries entry image scan.at read.front whole;
    }))

no_push : (xs : List Entry) (x : Entry) → xs ++ x ∷ [] ≡ [] → ⊥
no_push [] x e = cc
no_push (y ∷ ys) x e = cc

one_push : (xs : List Entry) (x y : Entry) → xs ++ x ∷ [] ≡ y ∷ [] → (xs ≡ []) × (x ≡ y)
one_push [] x y e = (refl, cc)
one_push (z ∷ []) x y e = absurd (cc)
one_push (z ∷ w ∷ xs) x y e = absurd (cc)

-- a record of the greatest round that may stand here is the first version record of a database of version 1
pub only_version : (version : Version) (digests : Digests) (entries : List Entry) (entry : Entry) → is_version entry ≡ true → AreFit version digests.current (entries ++ entry ∷ []) → (version ≡ First) × (versions entries ≡ []) × (entry ≡ version_entry digests.current)
only_version First digests entries entry is fit = elim fit.versions_fit [
  | inl none ↦ absurd (no_push (versions entries) entry (sym (versions-more entries entry is) ∙ none))
  | inr one ↦ let both = one_push (versions entries) entry (version_entry digests.current) (sym (versions-more entries entry is) ∙ one) in (refl, both.0, both.1)
]
only_version Second digests entries entry is fit = absurd (no_push (versions entries) entry (sym (versions-more entries entry is) ∙ fit.versions_fit))

-- where the version record was read
pub was_versioned : (b : Bool) (e : Entry) (found : List Entry) → found ≡ (if b then e ∷ [] else []) → found ≡ [] → b ≡ false
was_versioned false e found is none = refl
was_versioned true e found is none = absurd (cc (is, none))
