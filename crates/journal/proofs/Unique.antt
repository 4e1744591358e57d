-- An image holds one list of records, and begins in one way.
use Rattle.std.proofs.Common.{◌≡◌, ◌≢◌, ◌⊎◌, inl, inr, ℕ, ◌≤◌, Bool, true, false, List, [], ◌∷◌, ◌++◌, length, get_or, take, drop, slice_index, refl, sym, ◌∙◌, ap, subst, arith, append_assoc, take-append-drop, Option, Some, None, IsSome}
use Rattle.std.proofs.lemmas.Bool.{cases_lt}
use Rattle.std.proofs.lemmas.Bool.Decides.{eqb_tells}
use Rattle.std.proofs.lemmas.List.{take_at, drop_at, append_cancel_left, take-take}
use Rattle.std.proofs.lemmas.Slice.Eq.{bytes_eq-Decides}
use Rattle.std.specs.Str.{bytes_eq}
use Rattle.journal.specs.declared.digests.Digests.{Digests}
use Rattle.journal.specs.declared.digests.Version.{Version}
use Rattle.journal.specs.declared.digests.Version.TheVariants.{First, Second}
use Rattle.journal.specs.declared.header.Front.{Front}
use Rattle.journal.specs.declared.header.Front.TheVariants.{Unfinished, Foreign, Other, Known}
use Rattle.journal.specs.Format.{Entry, bytes_of, opened, IsClosed}
use Rattle.journal.specs.Headers.{name_of, header_of, digest_for, header_with, header_for, IsUnfinished, IsForeign, HasOther, IsKnown, BeginsWith}
use Rattle.journal.specs.Lists.{IsSized, AreSized, IsDatabase, HoldsList}
use Rattle.journal.proofs.Numerals.{same_spelling}

-- a record is told from its bytes
entry_same : (e e' : Entry) (rest rest' : List ℕ) → IsSized e → IsSized e' → (1 ∷ bytes_of e) ++ rest ≡ (1 ∷ bytes_of e') ++ rest' → (e ≡ e') × (rest ≡ rest')
entry_same e e' rest rest' fit fit' is =
    let round : e.round ≡ e'.round = same_spelling e.round e'.round fit.round fit'.round (ap (λ (l : List ℕ). take 4 (drop 1 l)) is) in
    let task : e.task ≡ e'.task = same_spelling e.task e'.task fit.task fit'.task (ap (λ (l : List ℕ). take 4 (drop 5 l)) is) in
    let size : length e.body ≡ length e'.body = same_spelling (length e.body) (length e'.body) fit.body fit'.body (ap (λ (l : List ℕ). take 4 (drop 9 l)) is) in
    let behind : e.body ++ rest ≡ e'.body ++ rest' = ap (λ (l : List ℕ). drop 13 l) is in
    let body : e.body ≡ e'.body = sym (take_at e.body rest (length e.body) refl) ∙ (ap (take (length e.body)) behind ∙ take_at e'.body rest' (length e.body) (sym size)) in
    let after : rest ≡ rest' = sym (drop_at e.body rest (length e.body) refl) ∙ (ap (drop (length e.body)) behind ∙ drop_at e'.body rest' (length e.body) (sym size)) in
    let same : e ≡ e' = λ i. record { round = round i; task = task i; body = body i } in
    (same, after)

-- open records are told from their bytes and a closed gate behind them
one_opened : (es es' : List Entry) (tail tail' : List ℕ) → AreSized es → AreSized es' → IsClosed tail → IsClosed tail' → opened es ++ tail ≡ opened es' ++ tail' → es ≡ es'
one_opened [] [] tail tail' sized sized' closed closed' is = refl
one_opened [] (e ∷ es) tail tail' sized sized' closed closed' is = absurd (subst IsClosed is closed refl)
one_opened (e ∷ es) [] tail tail' sized sized' closed closed' is = absurd (subst IsClosed (sym is) closed' refl)
one_opened (e ∷ es) (e' ∷ es') tail tail' sized sized' closed closed' is =
    let same : (e ≡ e') × (opened es ++ tail ≡ opened es' ++ tail') = entry_same e e' (opened es ++ tail) (opened es' ++ tail') sized.0 sized'.0
    (sym (append_assoc (1 ∷ bytes_of e) (opened es) tail) ∙ (is ∙ append_assoc (1 ∷ bytes_of e') (opened es') tail')) in
    let rest : es ≡ es' = one_opened es es' tail tail' sized.1 sized'.1 closed closed' same.1 in
    λ i. same.0 i ∷ rest i

-- the digest of a header that opening accepts
record Accepted (version : Version) (digest : Option (List ℕ)) : Type 0 where
  stored : List ℕ
  is : digest ≡ Some stored
  header : header_with version digest ≡ header_of version stored

accepted_is : (version : Version) (digest : Option (List ℕ)) → IsSome digest → Accepted version digest
accepted_is version (Some stored) some = record { stored = stored; is = refl; header = refl }
accepted_is version None none = absurd (let e : false ≡ true = none in cc)

-- an image that begins with a header
record Starts (image : List ℕ) (version : Version) (stored : List ℕ) : Type 0 where
  rest : List ℕ
  whole : image ≡ header_of version stored ++ rest

front_starts : (image : List ℕ) (version : Version) (stored : List ℕ) → take 40 image ≡ header_of version stored → Starts image version stored
front_starts image version stored front = record {
  rest = drop 40 image;
  whole = sym (take-append-drop 40 image) ∙ ap (λ (l : List ℕ). l ++ drop 40 image) front;
}

other_starts : (digests : Digests) (image stored : List ℕ) → (other : HasOther digests image stored) → Starts image other.0 stored
other_starts digests image stored other = front_starts image other.0 stored other.2

known_accepted : (digests : Digests) (image : List ℕ) (version : Version) → IsKnown digests image version → Accepted version (digest_for digests version)
known_accepted digests image version known = accepted_is version (digest_for digests version) known.accepted

known_front : (digests : Digests) (image : List ℕ) (version : Version) (known : IsKnown digests image version) → take 40 image ≡ header_of version (known_accepted digests image version known).stored
known_front digests image version known = known.front ∙ (known_accepted digests image version known).header

known_starts : (digests : Digests) (image : List ℕ) (version : Version) (known : IsKnown digests image version) → Starts image version (known_accepted digests image version known).stored
known_starts digests image version known = front_starts image version (known_accepted digests image version known).stored (known_front digests image version known)

database_starts : (digests : Digests) (entries : List Entry) (image : List ℕ) (version : Version) (database : IsDatabase digests entries image version) → Starts image version (accepted_is version (digest_for digests version) database.accepted).stored
database_starts digests entries image version database =
    let header = accepted_is version (digest_for digests version) database.accepted in
    record {
      rest = opened entries ++ database.stands.0;
      whole = database.stands.1 ∙ (append_assoc (header_for digests version) (opened entries) database.stands.0 ∙ ap (λ (l : List ℕ). l ++ (opened entries ++ database.stands.0)) header.header);
    }

finished : (image : List ℕ) (version : Version) (stored : List ℕ) → Starts image version stored → IsUnfinished image → ⊥
finished image First stored starts (inl short) = omega (arith, short, ap length starts.whole)
finished image Second stored starts (inl short) = omega (arith, short, ap length starts.whole)
finished image version stored starts (inr begun) = begun.0 (ap (λ (l : List ℕ). slice_index l 0) starts.whole)

versions_differ : (image stored stored' : List ℕ) → Starts image First stored → Starts image Second stored' → ⊥
versions_differ image stored stored' starts starts' =
    let e : 49 ≡ 50 = ap (λ (l : List ℕ). get_or l 7 0) (sym starts.whole ∙ starts'.whole) in
    omega (arith, e)

one_version : (image : List ℕ) (version version' : Version) (stored stored' : List ℕ) → Starts image version stored → Starts image version' stored' → version ≡ version'
one_version image First First stored stored' starts starts' = refl
one_version image Second Second stored stored' starts starts' = refl
one_version image First Second stored stored' starts starts' = absurd (versions_differ image stored stored' starts starts')
one_version image Second First stored stored' starts starts' = absurd (versions_differ image stored' stored starts' starts)

one_in_version : (digests : Digests) (entries others : List Entry) (image : List ℕ) (version : Version) → IsDatabase digests entries image version → IsDatabase digests others image version → entries ≡ others
one_in_version digests entries others image version a b =
    let header = header_for digests version in
    let same : opened entries ++ a.stands.0 ≡ opened others ++ b.stands.0 = append_cancel_left header (opened entries ++ a.stands.0) (opened others ++ b.stands.0)
    (sym (append_assoc header (opened entries) a.stands.0) ∙ (sym a.stands.1 ∙ (b.stands.1 ∙ append_assoc header (opened others) b.stands.0))) in
    one_opened entries others a.stands.0 b.stands.0 a.fit.sized b.fit.sized a.stands.2 b.stands.2 same

one_database : (digests : Digests) (entries others : List Entry) (image : List ℕ) (version version' : Version) → IsDatabase digests entries image version → IsDatabase digests others image version' → entries ≡ others
one_database digests entries others image version version' a b =
    let same : version ≡ version' = one_version image version version' _ _ (database_starts digests entries image version a) (database_starts digests others image version' b) in
    one_in_version digests entries others image version' (subst (IsDatabase digests entries image) same a) b

pub one_list : (digests : Digests) (entries others : List Entry) (image : List ℕ) → HoldsList digests entries image → HoldsList digests others image → entries ≡ others
one_list digests entries others image a b = elim a.list [
  | inl none ↦ elim b.list [
    | inl none' ↦ none.1 ∙ sym none'.1
    | inr found' ↦ absurd (finished image found'.0 _ (database_starts digests others image found'.0 found'.1) none.0)
  ]
  | inr found ↦ elim b.list [
    | inl none' ↦ absurd (finished image found.0 _ (database_starts digests entries image found.0 found.1) none'.0)
    | inr found' ↦ one_database digests entries others image found.0 found'.0 found.1 found'.1
  ]
]

not_foreign : (image : List ℕ) → IsUnfinished image → IsForeign image → ⊥
not_foreign image (inl short) foreign = omega (arith, short, foreign.0)
not_foreign image (inr begun) foreign = elim foreign.1 [
  | inl one ↦ begun.0 one
  | inr long ↦ omega (arith, long, begun.1)
]

stored_same : (version : Version) (stored stored' : List ℕ) → header_of version stored ≡ header_of version stored' → stored ≡ stored'
stored_same First stored stored' is = ap (λ (l : List ℕ). drop 8 l) is
stored_same Second stored stored' is = ap (λ (l : List ℕ). drop 8 l) is

not_known : (digests : Digests) (image stored : List ℕ) (version : Version) → HasOther digests image stored → IsKnown digests image version → ⊥
not_known digests image stored version other known =
    let accepted = known_accepted digests image version known in
    let same : other.0 ≡ version = one_version image other.0 version stored accepted.stored (other_starts digests image stored other) (known_starts digests image version known) in
    let front : take 40 image ≡ header_of version stored = other.2 ∙ ap (λ (v : Version). header_of v stored) same in
    let digest : accepted.stored ≡ stored = stored_same version accepted.stored stored (sym (known_front digests image version known) ∙ front) in
    other.3 (ap (digest_for digests) same ∙ (accepted.is ∙ ap (λ (l : List ℕ). Some l) digest))

one_other : (digests : Digests) (image stored stored' : List ℕ) → HasOther digests image stored → HasOther digests image stored' → stored ≡ stored'
one_other digests image stored stored' other other' =
    let same : other.0 ≡ other'.0 = one_version image other.0 other'.0 stored stored' (other_starts digests image stored other) (other_starts digests image stored' other') in
    stored_same other'.0 stored stored' (sym (other.2 ∙ ap (λ (v : Version). header_of v stored) same) ∙ other'.2)

known_not_foreign : (digests : Digests) (image : List ℕ) (version : Version) → IsForeign image → IsKnown digests image version → ⊥
known_not_foreign digests image version foreign known = foreign.2 version (known_accepted digests image version known).stored known.long (known_front digests image version known)

pub one_beginning : (digests : Digests) (image : List ℕ) (front front' : Front) → BeginsWith digests image front → BeginsWith digests image front' → front ≡ front'
one_beginning digests image Unfinished Unfinished a b = refl
one_beginning digests image Unfinished Foreign a b = absurd (not_foreign image a b)
one_beginning digests image Unfinished (Other stored) a b = absurd (finished image b.0 stored (other_starts digests image stored b) a)
one_beginning digests image Unfinished (Known version) a b = absurd (finished image version _ (known_starts digests image version b) a)
one_beginning digests image Foreign Unfinished a b = absurd (not_foreign image b a)
one_beginning digests image Foreign Foreign a b = refl
one_beginning digests image Foreign (Other stored) a b = absurd (a.2 b.0 stored b.1 b.2)
one_beginning digests image Foreign (Known version) a b = absurd (known_not_foreign digests image version a b)
one_beginning digests image (Other stored) Unfinished a b = absurd (finished image a.0 stored (other_starts digests image stored a) b)
one_beginning digests image (Other stored) Foreign a b = absurd (b.2 a.0 stored a.1 a.2)
one_beginning digests image (Other stored) (Other stored') a b = ap (λ (l : List ℕ). Other l) (one_other digests image stored stored' a b)
one_beginning digests image (Other stored) (Known version) a b = absurd (not_known digests image stored version a b)
one_beginning digests image (Known version) Unfinished a b = absurd (finished image version _ (known_starts digests image version a) b)
one_beginning digests image (Known version) Foreign a b = absurd (known_not_foreign digests image version b a)
one_beginning digests image (Known version) (Other stored) a b = absurd (not_known digests image stored version b a)
one_beginning digests image (Known version) (Known version') a b = ap (λ (v : Version). Known v) (one_version image version version' _ _ (known_starts digests image version a) (known_starts digests image version' b))

tells : (xs ys : List ℕ) → (xs ≡ ys) ⊎ (xs ≢ ys)
tells xs ys = go (bytes_eq xs ys) refl
  where
    go : (b : Bool) → bytes_eq xs ys ≡ b → (xs ≡ ys) ⊎ (xs ≢ ys)
    go true is = inl ((bytes_eq-Decides xs ys).0 is)
    go false is = inr (λ same. let e : true ≡ false = sym ((bytes_eq-Decides xs ys).1 same) ∙ is in cc)

-- the first 40 bytes, where an image begins with this name
front_of : (image name : List ℕ) → slice_index image 0 ≡ 1 → 41 ≤ length image → take 7 (drop 1 image) ≡ name → take 40 image ≡ 1 ∷ (name ++ drop 8 (take 40 image))
front_of [] name one long is = absurd (omega (arith, long))
front_of (x ∷ xs) name one long is =
    let first : x ≡ 1 = one in
    let named : take 7 (take 39 xs) ≡ name = take-take 7 39 xs (omega arith) ∙ is in
    let rest : take 39 xs ≡ name ++ drop 7 (take 39 xs) = sym (take-append-drop 7 (take 39 xs)) ∙ ap (λ (l : List ℕ). l ++ drop 7 (take 39 xs)) named in
    λ i. first i ∷ rest i

named_first : (image : List ℕ) (version : Version) (digest : List ℕ) → take 40 image ≡ header_of version digest → take 7 (drop 1 image) ≡ name_of version
named_first [] version digest is = absurd (omega (arith, ap length is))
named_first (x ∷ xs) First digest is = sym (take-take 7 39 xs (omega arith)) ∙ ap (λ (l : List ℕ). take 7 (drop 1 l)) is
named_first (x ∷ xs) Second digest is = sym (take-take 7 39 xs (omega arith)) ∙ ap (λ (l : List ℕ). take 7 (drop 1 l)) is

neither_named : (image : List ℕ) (version : Version) (digest : List ℕ) → take 7 (drop 1 image) ≢ name_of First → take 7 (drop 1 image) ≢ name_of Second → take 40 image ≡ header_of version digest → ⊥
neither_named image First digest first second is = first (named_first image First digest is)
neither_named image Second digest first second is = second (named_first image Second digest is)

module _ (digests : Digests) (image : List ℕ) where
  judged : (version : Version) (stored : List ℕ) (digest : Option (List ℕ)) → 41 ≤ length image → take 40 image ≡ header_of version stored → digest_for digests version ≡ digest → (front : Front) × BeginsWith digests image front
  judged version stored None long front is = (Other stored, (version, long, front, λ same. let e : None ≡ Some stored = sym is ∙ same in cc))
  judged version stored (Some digest) long front is = elim (tells digest stored) [
    | inl same ↦ (
      Known version,
      record {
        accepted = subst (λ (d : Option (List ℕ)). IsSome d) (sym is) refl;
        long = long;
        front = front ∙ (ap (header_of version) (sym same) ∙ ap (header_with version) (sym is));
      },
    )
    | inr other ↦ (Other stored, (version, long, front, λ same. other (let e : Some digest ≡ Some stored = sym is ∙ same in cc)))
  ]

  -- an image with an open gate that is long enough
  opened_begins : slice_index image 0 ≡ 1 → 41 ≤ length image → (front : Front) × BeginsWith digests image front
  opened_begins one long = elim (tells (take 7 (drop 1 image)) (name_of First)) [
    | inl first ↦ judged First (drop 8 (take 40 image)) (digest_for digests First) long (front_of image (name_of First) one long first) refl
    | inr other ↦ elim (tells (take 7 (drop 1 image)) (name_of Second)) [
      | inl second ↦ judged Second (drop 8 (take 40 image)) (digest_for digests Second) long (front_of image (name_of Second) one long second) refl
      | inr neither ↦ (Foreign, (omega (arith, long), inl one, λ version digest long' is. neither_named image version digest other neither is))
    ]
  ]

  pub some_beginning : (front : Front) × BeginsWith digests image front
  some_beginning = elim (cases_lt 1 (length image)) [
    | inr short ↦ (Unfinished, inl short)
    | inl some ↦ elim (eqb_tells (slice_index image 0) 1) [
      | inl one ↦ elim (cases_lt 40 (length image)) [
        | inl long ↦ opened_begins one.1 (omega (arith, long))
        | inr short ↦ (Foreign, (some, inl one.1, λ version digest long is. absurd (omega (arith, short, long))))
      ]
      | inr shut ↦ elim (cases_lt 41 (length image)) [
        | inl long ↦ (Foreign, (some, inr long, λ version digest _ is. shut.1 (ap (λ (l : List ℕ). slice_index l 0) (front_starts image version digest is).whole)))
        | inr short ↦ (Unfinished, inr (shut.1, short))
      ]
    ]
  ]
