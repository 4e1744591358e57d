-- Which publications were answered how.
use Rattle.std.proofs.Common.{◌≡◌, ℕ, Bool, true, false, cond, List, [], ◌∷◌, ◌++◌, map, length, All, slice_index_or, refl, ap, arith, ◌-◌, ◌<◌, ◌≤◌, ◌^◌}
use Rattle.std.proofs.lemmas.Bool.{ne_eqb}
use Rattle.std.proofs.lemmas.List.{map-append}
use Rattle.std.proofs.lemmas.List.Elements.{All-map}
use Rattle.journal.specs.Format.{Entry}
use Rattle.journal.specs.Settling.{IsPlain, ArePlain}
use Rattle.tables.specs.declared.batch.Publication.{Publication}
use Rattle.tables.specs.declared.publish.Publish.{Publish}
use Rattle.tables.specs.declared.publish.Publish.TheVariants.{Stored, Lost, Disk, Full, NoMemory}
use Rattle.tables.specs.Batches.{instead}
use Rattle.tables.specs.Shelves.{Shelved}
use Rattle.tables.specs.Sound.{record_body, HasCause}
use Rattle.tables.specs.Stored.{record_of, record_for, records_of, answered_by, is_stored, is_failed, is_written}

-- one more
pub answered_push : (is : Publish → Bool) (done : List Publication) (answers : List Publish) (p : Publication) (a : Publish) → length answers ≡ length done →
    answered_by is (done ++ p ∷ []) (answers ++ a ∷ []) ≡ answered_by is done answers ++ answered_by is (p ∷ []) (a ∷ [])
answered_push is [] [] p a e = refl
answered_push is [] (b ∷ answers) p a e = absurd (omega (arith, e))
answered_push is (q ∷ done) [] p a e = absurd (omega (arith, e))
answered_push is (q ∷ done) (b ∷ answers) p a e =
    let more : length answers ≡ length done = omega (arith, e) in
    let h = answered_push is done answers p a more in
    elim (is b) as (λ v. cond v (q ∷ answered_by is (done ++ p ∷ []) (answers ++ a ∷ [])) (answered_by is (done ++ p ∷ []) (answers ++ a ∷ [])) ≡ cond v (q ∷ answered_by is done answers) (answered_by is done answers) ++ answered_by is (p ∷ []) (a ∷ [])) [
      | true ↦ ap (λ (l : List Publication). q ∷ l) h
      | false ↦ h
    ]

pub records_push : (shelf : Shelved) (round : ℕ) (taken : List Publication) (p : Publication) → records_of shelf round (taken ++ p ∷ []) ≡ records_of shelf round taken ++ record_for shelf round p ∷ []
records_push shelf round taken p = map-append (record_for shelf round) taken (p ∷ [])

pub plain_push : (entries : List Entry) (entry : Entry) → ArePlain entries → IsPlain entry → ArePlain (entries ++ entry ∷ [])
plain_push [] entry h is = (is, tt)
plain_push (x ∷ entries) entry h is = (h.0, plain_push entries entry h.1 is)

-- a record of a round that may be is no version record
pub plain_record : (shelf : Shelved) (round task : ℕ) (artifact : List ℕ) → round < 2 ^ 32 - 1 → task < 2 ^ 32 → length (record_body shelf round task artifact) ≤ 2 ^ 31 → IsPlain (record_of shelf round task artifact)
plain_record shelf round task artifact few fits short = record {
  sized = record { round = omega (arith, few); task = fits; body = omega (arith, short) };
  plain = ne_eqb round 4294967295 (λ e. omega (arith, e, few));
}

-- where no call of the disk failed, what is stored was written
pub written_stored : (done : List Publication) (answers : List Publish) → answered_by is_failed done answers ≡ [] → answered_by is_written done answers ≡ answered_by is_stored done answers
written_stored [] answers e = refl
written_stored (p ∷ done) [] e = refl
written_stored (p ∷ done) (Stored ∷ answers) e = ap (λ (l : List Publication). p ∷ l) (written_stored done answers e)
written_stored (p ∷ done) (Lost round standing ∷ answers) e = written_stored done answers e
written_stored (p ∷ done) (Disk ∷ answers) e = absurd cc
written_stored (p ∷ done) (Full size ∷ answers) e = written_stored done answers e
written_stored (p ∷ done) (NoMemory ∷ answers) e = written_stored done answers e

-- where another answer is given in place of that to what was to be stored, nothing is stored
pub none_stored : (answer : Publish) → is_stored answer ≡ false → (done : List Publication) (answers : List Publish) → answered_by is_stored done (map (instead answer) answers) ≡ []
none_stored answer unlike [] answers = refl
none_stored answer unlike (p ∷ done) [] = refl
none_stored answer unlike (p ∷ done) (Stored ∷ answers) = rw unlike (none_stored answer unlike done answers)
none_stored answer unlike (p ∷ done) (Lost round standing ∷ answers) = none_stored answer unlike done answers
none_stored answer unlike (p ∷ done) (Disk ∷ answers) = none_stored answer unlike done answers
none_stored answer unlike (p ∷ done) (Full size ∷ answers) = none_stored answer unlike done answers
none_stored answer unlike (p ∷ done) (NoMemory ∷ answers) = none_stored answer unlike done answers

-- and what was to be stored was to be written
pub written_failed : (done : List Publication) (answers : List Publish) → answered_by is_failed done answers ≡ [] → answered_by is_written done (map (instead Disk) answers) ≡ answered_by is_stored done answers
written_failed [] answers e = refl
written_failed (p ∷ done) [] e = refl
written_failed (p ∷ done) (Stored ∷ answers) e = ap (λ (l : List Publication). p ∷ l) (written_failed done answers e)
written_failed (p ∷ done) (Lost round standing ∷ answers) e = written_failed done answers e
written_failed (p ∷ done) (Disk ∷ answers) e = absurd cc
written_failed (p ∷ done) (Full size ∷ answers) e = written_failed done answers e
written_failed (p ∷ done) (NoMemory ∷ answers) e = written_failed done answers e

-- an answer that is no failure of the disk makes none
pub still_none_failed : (answer : Publish) → is_failed answer ≡ false → (done : List Publication) (answers : List Publish) → answered_by is_failed done answers ≡ [] → answered_by is_failed done (map (instead answer) answers) ≡ []
still_none_failed answer unlike [] answers e = refl
still_none_failed answer unlike (p ∷ done) [] e = refl
still_none_failed answer unlike (p ∷ done) (Stored ∷ answers) e = rw unlike (still_none_failed answer unlike done answers e)
still_none_failed answer unlike (p ∷ done) (Lost round standing ∷ answers) e = still_none_failed answer unlike done answers e
still_none_failed answer unlike (p ∷ done) (Disk ∷ answers) e = absurd cc
still_none_failed answer unlike (p ∷ done) (Full size ∷ answers) e = still_none_failed answer unlike done answers e
still_none_failed answer unlike (p ∷ done) (NoMemory ∷ answers) e = still_none_failed answer unlike done answers e

-- each of those that were to be stored has the answer in their place
pub failed_stored : (done : List Publication) (answers : List Publish) → answered_by is_failed done answers ≡ [] → answered_by is_failed done (map (instead Disk) answers) ≡ answered_by is_stored done answers
failed_stored [] answers e = refl
failed_stored (p ∷ done) [] e = refl
failed_stored (p ∷ done) (Stored ∷ answers) e = ap (λ (l : List Publication). p ∷ l) (failed_stored done answers e)
failed_stored (p ∷ done) (Lost round standing ∷ answers) e = failed_stored done answers e
failed_stored (p ∷ done) (Disk ∷ answers) e = absurd cc
failed_stored (p ∷ done) (Full size ∷ answers) e = failed_stored done answers e
failed_stored (p ∷ done) (NoMemory ∷ answers) e = failed_stored done answers e

-- the causes of answers, where another that has one is given in place of that to what was to be stored
cause_instead : (failed : Bool) (answer : Publish) → HasCause failed answer → (each : Publish) → HasCause failed each → HasCause failed (instead answer each)
cause_instead failed answer cause Stored h = cause
cause_instead failed answer cause (Lost round standing) h = tt
cause_instead failed answer cause Disk h = h
cause_instead failed answer cause (Full size) h = h
cause_instead failed answer cause NoMemory h = tt

pub causes_instead : (failed : Bool) (answer : Publish) → HasCause failed answer → (answers : List Publish) → All (HasCause failed) answers → All (HasCause failed) (map (instead answer) answers)
causes_instead failed answer cause answers h = All-map (HasCause failed) (instead answer) answers (λ k d lt. cause_instead failed answer cause (slice_index_or answers k d) (h k d lt))
