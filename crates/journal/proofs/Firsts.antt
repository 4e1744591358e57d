-- The first record of each key.
use Rattle.std.proofs.Common.{◌≡◌, ℕ, ◌+◌, ◌<◌, ◌==◌, ◌&&◌, Bool, true, false, cond, if◌then◌else◌, List, [], ◌∷◌, ◌++◌, length, get_or, find, refl, sym, ◌∙◌, ap, subst, arith, length-append, Option, Some, None, is_some, slice_get, Vec, Global}
use Rattle.std.proofs.lemmas.Bool.Decides.{Decides-eqb}
use Rattle.std.proofs.lemmas.List.Folds.{find-append}
use Rattle.std.proofs.lemmas.Option.{slice_get-get_or}
use Rattle.std.specs.Option.{option_or}
use Rattle.std.proofs.lemmas.List.{get_or_append_left, get_or-map, length-map}
use Rattle.std.proofs.Math.Seq.{get_or-append_seam}
use Rattle.journal.specs.declared.first_bodies.TaskKey.{TaskKey}
use Rattle.journal.specs.Format.{Entry}
use Rattle.journal.specs.Looks.{is_short, one_before, body_or, filled}
use Rattle.journal.specs.Keys.{is_of, same_key, key_of, given, IsFirst, IsBodyOf}
use Rattle.journal.specs.Steps.{entry_of}
use Rattle.journal.specs.declared.kept.Kept.{Kept}

both : (a b : Bool) → (a && b) ≡ true → (a ≡ true) × (b ≡ true)
both true b is = (refl, is)
both false b is = absurd (let e : false ≡ true = is in cc)

pub same_true : (p q : TaskKey) → same_key p q ≡ true → p ≡ q
same_true p q is =
    let parts = both (p.round == q.round) (p.task == q.task) is in
    let round : p.round ≡ q.round = (Decides-eqb p.round q.round).0 parts.0 in
    let task : p.task ≡ q.task = (Decides-eqb p.task q.task).0 parts.1 in
    λ i. record { round = round i; task = task i }

pub kept_first : (r : Option ℕ) (es : List Entry) (e : Entry) (q : TaskKey) → IsFirst r es q → (is_of q e ≡ true → r ≡ None → ⊥) → IsFirst r (es ++ e ∷ []) q
kept_first None es e q none other = find-append (is_of q) es (e ∷ []) ∙ (ap (λ (o : Option Entry). option_or o (find (is_of q) (e ∷ []))) none ∙ go (is_of q e) refl)
  where
    go : (b : Bool) → is_of q e ≡ b → find (is_of q) (e ∷ []) ≡ None
    go true is = absurd (other is refl)
    go false is = ap (λ (b : Bool). cond b (Some e) None) is
kept_first (Some i) es e q first other =
    let some : slice_get es i ≡ Some (get_or es i e) = slice_get-get_or es i e first.0 in
    let within : i < length (es ++ e ∷ []) = omega (arith, first.0, length-append es (e ∷ [])) in
    let now : slice_get (es ++ e ∷ []) i ≡ Some (get_or es i e) = slice_get-get_or (es ++ e ∷ []) i e within ∙ ap (λ (x : Entry). Some x) (get_or_append_left es (e ∷ []) e i first.0) in
    (within, find-append (is_of q) es (e ∷ []) ∙ (ap (λ (o : Option Entry). option_or o (find (is_of q) (e ∷ []))) (first.1 ∙ some) ∙ sym now))

pub new_first : (es : List Entry) (e : Entry) (q : TaskKey) → IsFirst None es q → is_of q e ≡ true → IsFirst (Some (length es)) (es ++ e ∷ []) q
new_first es e q none is =
    let within : length es < length (es ++ e ∷ []) = omega (arith, length-append es (e ∷ [])) in
    let now : slice_get (es ++ e ∷ []) (length es) ≡ Some e = slice_get-get_or (es ++ e ∷ []) (length es) e within ∙ ap (λ (x : Entry). Some x) (get_or-append_seam es e [] e) in
    let one : find (is_of q) (e ∷ []) ≡ Some e = ap (λ (b : Bool). cond b (Some e) None) is in
    (within, find-append (is_of q) es (e ∷ []) ∙ (ap (λ (o : Option Entry). option_or o (find (is_of q) (e ∷ []))) none ∙ (one ∙ sym now)))

-- one record more, of a key that has been noted
pub noted_before : (firsts : TaskKey → Option ℕ) (es : List Entry) (e : Entry) (key : TaskKey) → key ≡ key_of e → (firsts key ≡ None → ⊥) → ((q : TaskKey) → IsFirst (firsts q) es q) → (q : TaskKey) → IsFirst (firsts q) (es ++ e ∷ []) q
noted_before firsts es e key is some before q = kept_first (firsts q) es e q (before q)
    (λ is' none. some (ap firsts (same_true key q (ap (λ (p : TaskKey). same_key p q) is ∙ is')) ∙ none))

-- one record more, whose key is noted now
pub noted_now : (firsts now : TaskKey → Option ℕ) (es : List Entry) (e : Entry) (key : TaskKey) (index : ℕ) → length es ≡ index → key ≡ key_of e → firsts key ≡ None → ((q : TaskKey) → now q ≡ cond (same_key key q) (Some index) (firsts q))
    → ((q : TaskKey) → IsFirst (firsts q) es q) → (q : TaskKey) → IsFirst (now q) (es ++ e ∷ []) q
noted_now firsts now es e key index size is none gets before q = go (same_key key q) refl
  where
    of : is_of q e ≡ same_key key q
    of = sym (ap (λ (p : TaskKey). same_key p q) is)

    go : (b : Bool) → same_key key q ≡ b → IsFirst (now q) (es ++ e ∷ []) q
    go true here' =
        let here : firsts q ≡ None = sym (ap firsts (same_true key q here')) ∙ none in
        let has : Some (length es) ≡ now q = ap (λ (i : ℕ). Some i) size ∙ sym (gets q ∙ ap (λ (b : Bool). cond b (Some index) (firsts q)) here') in
        subst (λ (r : Option ℕ). IsFirst r (es ++ e ∷ []) q) has (new_first es e q (subst (λ (r : Option ℕ). IsFirst r es q) here (before q)) (of ∙ here'))
    go false other =
        let same : firsts q ≡ now q = sym (gets q ∙ ap (λ (b : Bool). cond b (Some index) (firsts q)) other) in
        subst (λ (r : Option ℕ). IsFirst r (es ++ e ∷ []) q) same (kept_first (firsts q) es e q (before q) (λ is' _. let e : true ≡ false = sym is' ∙ (of ∙ other) in cc))

-- no round is before the first
pub none_before : (es : List Entry) (entry : Entry) → entry.round ≡ 0 → one_before es entry ≡ None
none_before [] entry first = refl
none_before (e ∷ es) entry first = go (e.round + 1 == entry.round) refl (none_before es entry first)
  where
    go : (b : Bool) → (e.round + 1 == entry.round) ≡ b → one_before es entry ≡ None → one_before (e ∷ es) entry ≡ None
    go true is rest = absurd (let same : e.round + 1 ≡ entry.round = (Decides-eqb (e.round + 1) entry.round).0 is in omega (arith, same, first))
    go false is rest = ap (λ (b : Bool). cond (b && (e.task == entry.task)) (Some e) (one_before es entry)) is ∙ rest

pub as_it_is : (es : List Entry) (entry : Entry) → one_before es entry ≡ None → entry ≡ filled es entry
as_it_is es entry none = go (is_short entry.body) refl
  where
    go : (b : Bool) → is_short entry.body ≡ b → entry ≡ filled es entry
    go true is = let body : entry.body ≡ (filled es entry).body = sym (ap (λ (s : Bool). if s then body_or entry.body (one_before es entry) else entry.body) is ∙ ap (body_or entry.body) none) in λ i. record entry { body = body i }
    go false is = let body : entry.body ≡ (filled es entry).body = sym (ap (λ (s : Bool). if s then body_or entry.body (one_before es entry) else entry.body) is) in λ i. record entry { body = body i }

pub some_none : (o : Option ℕ) → is_some o ≡ true → o ≡ None → ⊥
some_none None some none = absurd (let e : false ≡ true = some in cc)
some_none (Some x) some none = absurd (let e : Some x ≡ None = none in cc)

pub at_index : (found : Option ℕ) (index : ℕ) (es : List Entry) (key : TaskKey) → Some index ≡ found → IsFirst found es key → IsFirst (Some index) es key
at_index found index es key is first = subst (λ (r : Option ℕ). IsFirst r es key) (sym is) first

pub within : (index : ℕ) (records : List Kept) (key : TaskKey) → IsFirst (Some index) (given records) key → index < length records
within index records key first = omega (arith, first.0, length-map records entry_of)

pub body_is : (index : ℕ) (records : List Kept) (key : TaskKey) (kept : Kept) (body : Vec ℕ Global) → IsFirst (Some index) (given records) key → kept ≡ get_or records index kept → body.items ≡ kept.body.items → IsBodyOf (find (is_of key) (given records)) (Some body)
body_is index records key kept body first here same =
    let le : index < length records = within index records key first in
    let at : slice_get (given records) index ≡ Some (entry_of kept) =
    slice_get-get_or (given records) index (entry_of kept) first.0 ∙ ap (λ (e : Entry). Some e) (get_or-map entry_of records index kept (entry_of kept) le ∙ ap entry_of (sym here)) in
    subst (λ (o : Option Entry). IsBodyOf o (Some body)) (sym (first.1 ∙ at)) same

pub no_body : (found : Option ℕ) (es : List Entry) (key : TaskKey) → None ≡ found → IsFirst found es key → IsBodyOf (find (is_of key) es) None
no_body found es key is first =
    let none : find (is_of key) es ≡ None = subst (λ (r : Option ℕ). IsFirst r es key) (sym is) first in
    subst (λ (o : Option Entry). IsBodyOf o None) (sym none) tt
