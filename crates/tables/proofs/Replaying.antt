-- Records that are read one by one lead to the rounds.
use Rattle.std.proofs.Common.{◌≡◌, ℕ, Bool, false, List, [], ◌∷◌, ◌++◌, refl, sym, ◌∙◌, ap, subst}
use Rattle.std.proofs.lemmas.List.{append-nil}
use Rattle.std.proofs.lemmas.List.Elements.{filter-append}
use Rattle.std.specs.Prelude.{not, cond, None, Ok}
use Rattle.journal.specs.declared.digests.Digests.{Digests}
use Rattle.journal.specs.declared.kept.Kept.{Kept}
use Rattle.journal.specs.declared.reader.Reading.{Reading}
use Rattle.journal.specs.Format.{Entry}
use Rattle.journal.specs.Lists.{is_version, ordinary}
use Rattle.journal.specs.Nexts.{HandsOut}
use Rattle.journal.specs.Readings.{reading_disk, reading_scan, reading_version, NextIs}
use Rattle.journal.specs.Scans.{HasRead}
use Rattle.journal.specs.Steps.{entry_of}
use Rattle.tables.specs.Replays.{Takes, TakesAll, LeadTo, IsReadBack}
use Rattle.tables.specs.Rounds.{Rounded}

is_ordinary : Entry → Bool
is_ordinary e = not (is_version e)

-- these records of the image were read, and lead to these rounds
pub record IsReadTo {B D : Type 0} (seen : D → List ℕ) (digests : Digests) (image : List ℕ) (reading : Reading D) (rounds : Rounded B) : Type 0 where
  pub entries : List Entry
  pub has_read : HasRead digests entries (reading_scan reading) image
  pub same : seen (reading_disk reading) ≡ image
  pub lead : LeadTo (ordinary entries) rounds

takes_one_more : {B : Type 0} (entries : List Entry) (entry : Entry) (old middle new : Rounded B) → TakesAll entries old middle → Takes entry middle new → TakesAll (entries ++ entry ∷ []) old new
takes_one_more {B} [] entry old middle new all takes = (new, subst (λ (r : Rounded B). Takes entry r new) all takes, refl)
takes_one_more (first ∷ entries) entry old middle new all takes = (all.0, all.1, takes_one_more entries entry all.0 middle new all.2 takes)

pub lead_one_more : {B : Type 0} (entries : List Entry) (entry : Entry) (middle new : Rounded B) → LeadTo entries middle → Takes entry middle new → LeadTo (entries ++ entry ∷ []) new
lead_one_more entries entry middle new lead takes = (lead.0, lead.1, lead.2, takes_one_more entries entry lead.1 middle new lead.3 takes)

-- version records lead nowhere
pub ordinary_passed : (entries passed : List Entry) → ordinary passed ≡ [] → ordinary (entries ++ passed) ≡ ordinary entries
ordinary_passed entries passed none = filter-append (λ e. not (is_version e)) entries passed ∙ ap (λ (xs : List Entry). ordinary entries ++ xs) none ∙ append-nil (ordinary entries)

ordinary_one : (entry : Entry) → is_version entry ≡ false → ordinary (entry ∷ []) ≡ entry ∷ []
ordinary_one entry plain = ap (λ (b : Bool). cond (not b) (entry ∷ []) []) plain

ordinary_more : (entries passed : List Entry) (entry : Entry) → ordinary passed ≡ [] → is_version entry ≡ false → ordinary ((entries ++ passed) ++ entry ∷ []) ≡ ordinary entries ++ entry ∷ []
ordinary_more entries passed entry none plain =
    filter-append (λ e. not (is_version e)) (entries ++ passed) (entry ∷ [])
    ∙ ap (λ (xs : List Entry). xs ++ ordinary (entry ∷ [])) (ordinary_passed entries passed none)
    ∙ ap (λ (xs : List Entry). ordinary entries ++ xs) (ordinary_one entry plain)

pub read_one_more : {B D : Type 0} (seen : D → List ℕ) (digests : Digests) (image : List ℕ) (old new : Reading D) (before after : Rounded B) (kept : Kept) →
    (read : IsReadTo seen digests image old before) → HandsOut digests read.entries (reading_version new) kept image (reading_scan new) →
    seen (reading_disk new) ≡ seen (reading_disk old) → Takes (entry_of kept) before after → IsReadTo seen digests image new after
read_one_more seen digests image old new before after kept read out same takes = record {
  entries = (read.entries ++ out.passed) ++ entry_of kept ∷ [];
  has_read = out.read;
  same = same ∙ read.same;
  lead = subst (λ (xs : List Entry). LeadTo xs after) (sym (ordinary_more read.entries out.passed (entry_of kept) out.no_more out.plain))
      (lead_one_more (ordinary read.entries) (entry_of kept) before after read.lead takes);
}

pub read_to_end : {B D : Type 0} (told : Bool) (seen : D → List ℕ) (may_leave : D → List ℕ → Type 0) (digests : Digests) (image : List ℕ) (old new : Reading D) (rounds : Rounded B) →
    (read : IsReadTo seen digests image old rounds) → NextIs told may_leave digests read.entries image new (Ok None) → IsReadBack told may_leave digests image new rounds
read_to_end told seen may_leave digests image old new rounds read next = record {
  entries = read.entries ++ next.0;
  stands = next.2;
  ends = next.3;
  lead = subst (λ (xs : List Entry). LeadTo xs rounds) (sym (ordinary_passed read.entries next.0 next.1)) read.lead;
}
