-- A batch with one more publication.
use Rattle.std.proofs.Common.{◌≡◌, ℕ, ◌+◌, Bool, false, List, [], ◌∷◌, ◌++◌, length, Option, Some, refl, sym, ap, subst, ◌∙◌}
use Rattle.std.proofs.lemmas.List.{append-nil, length-append}
use Rattle.std.proofs.lemmas.List.Elements.{All-append, All-cons, All-nil}
use Rattle.journal.specs.declared.piece.Piece.{Piece}
use Rattle.journal.specs.Format.{Entry, IsBatch}
use Rattle.journal.specs.Pieces.{piece_bytes}
use Rattle.journal.specs.Settling.{IsPlain, ArePlain}
use Rattle.tables.specs.declared.batch.Publication.{Publication}
use Rattle.tables.specs.declared.publish.Publish.{Publish}
use Rattle.tables.specs.declared.publish.Publish.TheVariants.{Stored}
use Rattle.tables.specs.Batches.{IsPieceOf, IsBatchOf}
use Rattle.tables.specs.Shelves.{Shelved}
use Rattle.tables.specs.Sound.{HasCause}
use Rattle.tables.specs.Stored.{record_for, records_of, answered_by, is_stored, is_failed}
use Rattle.tables.proofs.Answered.{answered_push, records_push, plain_push}

one_more : {A B : Type 0} (xs : List A) (ys : List B) (x : A) (y : B) → length xs ≡ length ys → length (xs ++ x ∷ []) ≡ length (ys ++ y ∷ [])
one_more xs ys x y e = length-append xs (x ∷ []) ∙ ap (λ n. n + 1) e ∙ sym (length-append ys (y ∷ []))

none_of : (is : Publish → Bool) (done : List Publication) (answers : List Publish) (p : Publication) (a : Publish) → is a ≡ false → length answers ≡ length done →
    answered_by is (done ++ p ∷ []) (answers ++ a ∷ []) ≡ answered_by is done answers
none_of is done answers p a unlike e = answered_push is done answers p a e ∙ (rw unlike (append-nil (answered_by is done answers)))

-- one that is refused
pub batch_refused : (shelf : Shelved) (round : ℕ) (done : List Publication) (piece : Option Piece) (taken : List Publication) (answers : List Publish) (p : Publication) (a : Publish) →
    is_stored a ≡ false → is_failed a ≡ false → ((failed : Bool) → HasCause failed a) → IsBatchOf shelf round done piece taken answers → IsBatchOf shelf round (done ++ p ∷ []) piece taken (answers ++ a ∷ [])
batch_refused shelf round done piece taken answers p a unstored sound cause h = record {
  answered = one_more answers done a p h.answered;
  taken_is = h.taken_is ∙ sym (none_of is_stored done answers p a unstored h.answered);
  plain = h.plain;
  written = h.written;
  none_failed = none_of is_failed done answers p a sound h.answered ∙ h.none_failed;
  causes = λ failed. All-append (HasCause failed) answers (a ∷ []) (h.causes failed) (All-cons (HasCause failed) a [] (cause failed) (All-nil (HasCause failed)));
}

-- one whose record was added
pub batch_taken : (shelf : Shelved) (round : ℕ) (done : List Publication) (piece now : Option Piece) (taken : List Publication) (answers : List Publish) (p : Publication) →
    IsPlain (record_for shelf round p) → IsPieceOf (records_of shelf round taken ++ record_for shelf round p ∷ []) now →
    IsBatchOf shelf round done piece taken answers → IsBatchOf shelf round (done ++ p ∷ []) now (taken ++ p ∷ []) (answers ++ Stored ∷ [])
batch_taken shelf round done piece now taken answers p is written h =
    let more : records_of shelf round (taken ++ p ∷ []) ≡ records_of shelf round taken ++ record_for shelf round p ∷ [] = records_push shelf round taken p in
    record {
      answered = one_more answers done Stored p h.answered;
      taken_is = ap (λ (l : List Publication). l ++ p ∷ []) h.taken_is ∙ sym (answered_push is_stored done answers p Stored h.answered);
      plain = subst (λ (l : List Entry). ArePlain l) (sym more) (plain_push (records_of shelf round taken) (record_for shelf round p) h.plain is);
      written = subst (λ (l : List Entry). IsPieceOf l now) (sym more) written;
      none_failed = none_of is_failed done answers p Stored refl h.answered ∙ h.none_failed;
      causes = λ failed. All-append (HasCause failed) answers (Stored ∷ []) (h.causes failed) (All-cons (HasCause failed) Stored [] tt (All-nil (HasCause failed)));
    }

-- what stands in a batch of some records
pub to_be_written : (shelf : Shelved) (round : ℕ) (done : List Publication) (piece : Piece) (taken : List Publication) (answers : List Publish) →
    IsBatchOf shelf round done (Some piece) taken answers → IsBatch (records_of shelf round (answered_by is_stored done answers)) (piece_bytes piece) × ArePlain (records_of shelf round (answered_by is_stored done answers))
to_be_written shelf round done piece taken answers h =
    (subst (λ (l : List Publication). IsBatch (records_of shelf round l) (piece_bytes piece)) h.taken_is h.written, subst (λ (l : List Publication). ArePlain (records_of shelf round l)) h.taken_is h.plain)

pub some_stored : (shelf : Shelved) (round : ℕ) (done : List Publication) (piece : Piece) (taken : List Publication) (answers : List Publish) →
    IsBatchOf shelf round done (Some piece) taken answers → answered_by is_stored done answers ≡ [] → ⊥
some_stored shelf round done piece taken answers h none =
    let empty : IsBatch [] (piece_bytes piece) = subst (λ (l : List Publication). IsBatch (records_of shelf round l) (piece_bytes piece)) (h.taken_is ∙ none) h.written in
    absurd cc
