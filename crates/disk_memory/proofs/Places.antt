-- The place of the first value of a name, and what stands once it is taken out.
use Rattle.std.proofs.Common.{◌≡◌, ◌≢◌, ℕ, zero, suc, ◌+◌, ◌<◌, true, false, Some, None, List, [], ◌∷◌, length, get_or, drop, refl, sym, ◌∙◌, ap, arith, inl, inr}
use Rattle.std.specs.Prelude.{String, string_bytes, remove}
use Rattle.std.specs.Str.{bytes_eq}
use Rattle.std.specs.declared.alloc.Global.{Global}
use Rattle.std.proofs.lemmas.Bool.{cases_Bool}
use Rattle.std.proofs.lemmas.Slice.Eq.{bytes_eq-Decides}
use Rattle.std.proofs.lemmas.List.{drop_more}
use Rattle.disk_memory.specs.Named.{named, without, IsPlace}

-- the search of the rest gives the search of the whole
pub record Searches {T : Type 0} (list : List (String Global × T)) (name : List ℕ) (at : ℕ) : Type 0 where
  pub rest : named (drop at list) name ≡ named list name
  pub place : (k : ℕ) → IsPlace (drop at list) name k → IsPlace list name (at + k)

pub searches_next : {T : Type 0} (list : List (String Global × T)) (name : List ℕ) (at : ℕ) (pair : String Global × T) → at < length list → pair ≡ get_or list at pair → bytes_eq (string_bytes pair.0) name ≡ false → Searches list name at → Searches list name (at + 1)
searches_next {T} list name at pair inside is other s =
    let split : drop at list ≡ pair ∷ drop (at + 1) list = drop_more list at pair inside ∙ ap (λ (p : String Global × T). p ∷ drop (at + 1) list) (sym is) in
    let rest : named (pair ∷ drop (at + 1) list) name ≡ named list name = rw split at s.rest in
    let place : (k : ℕ) → IsPlace (pair ∷ drop (at + 1) list) name k → IsPlace list name (at + k) = λ k p. s.place k (rw split p) in
    record {
      rest = rw other at rest;
      place = λ k p. let next : at + 1 + k ≡ at + suc k = omega arith in rw next (place (suc k) (other, p));
    }

pub searches_found : {T : Type 0} (list : List (String Global × T)) (name : List ℕ) (at : ℕ) (pair : String Global × T) → at < length list → pair ≡ get_or list at pair → bytes_eq (string_bytes pair.0) name ≡ true → Searches list name at → IsPlace list name at
searches_found {T} list name at pair inside is same s =
    let split : drop at list ≡ pair ∷ drop (at + 1) list = drop_more list at pair inside ∙ ap (λ (p : String Global × T). p ∷ drop (at + 1) list) (sym is) in
    let here : at + 0 ≡ at = omega arith in
    rw here at (s.place 0 (rw split same))

pub place_inside : {T : Type 0} (list : List (String Global × T)) (name : List ℕ) (at : ℕ) → IsPlace list name at → at < length list
place_inside [] name at p = absurd p
place_inside (pair ∷ pairs) name zero p = omega arith
place_inside (pair ∷ pairs) name (suc at) p = omega (arith, place_inside pairs name at p.1)

pub place_found : {T : Type 0} (list : List (String Global × T)) (name : List ℕ) (at : ℕ) (pair : String Global × T) → IsPlace list name at → pair ≡ get_or list at pair → named list name ≡ Some pair.1
place_found [] name at pair p is = absurd p
place_found (first ∷ pairs) name zero pair p is = rw (p, is) refl
place_found (first ∷ pairs) name (suc at) pair p is = rw p.0 (place_found pairs name at pair p.1 is)

text_is : (bytes name : List ℕ) → bytes_eq bytes name ≡ true → bytes ≡ name
text_is bytes name same = (bytes_eq-Decides bytes name).0 same

-- two names of which one is the pair's
pub other_name : (bytes name other : List ℕ) → bytes_eq bytes name ≡ true → other ≢ name → bytes_eq bytes other ≡ false
other_name bytes name other same differs =
    elim (cases_Bool (bytes_eq bytes other)) [
      | inl also ↦ absurd (differs (sym (text_is bytes other also) ∙ text_is bytes name same))
      | inr not' ↦ not'
    ]

pub place_others : {T : Type 0} (list : List (String Global × T)) (name other : List ℕ) (at : ℕ) → IsPlace list name at → other ≢ name → named (remove list at) other ≡ named list other
place_others [] name other at p differs = absurd p
place_others (pair ∷ pairs) name other zero p differs = rw (other_name (string_bytes pair.0) name other p differs) refl
place_others (pair ∷ pairs) name other (suc at) p differs =
    elim (cases_Bool (bytes_eq (string_bytes pair.0) other)) [
      | inl same ↦ rw same refl
      | inr not' ↦ rw not' (place_others pairs name other at p.1 differs)
    ]

pub place_left : {T : Type 0} (list : List (String Global × T)) (name : List ℕ) (at : ℕ) → IsPlace list name at → remove list at ≡ without list name
place_left [] name at p = absurd p
place_left (pair ∷ pairs) name zero p = rw p refl
place_left {T} (pair ∷ pairs) name (suc at) p = rw p.0 (ap (λ (l : List (String Global × T)). pair ∷ l) (place_left pairs name at p.1))

some_is_none : {T : Type 0} (x : T) (P : Type 0) → Some x ≡ None → P
some_is_none x P e = absurd (cc)

pub none_left : {T : Type 0} (list : List (String Global × T)) (name : List ℕ) → named list name ≡ None → without list name ≡ list
none_left [] name none = refl
none_left {T} (pair ∷ pairs) name none = elim (cases_Bool (bytes_eq (string_bytes pair.0) name)) [
  | inl same ↦ some_is_none pair.1 _ (rw same at none)
  | inr other ↦ rw other (ap (λ (l : List (String Global × T)). pair ∷ l) (none_left pairs name (rw other at none)))
]
