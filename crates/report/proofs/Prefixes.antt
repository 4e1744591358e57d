-- Prefixes of a text that is made of parts.
use Rattle.std.proofs.Common.{◌≡◌, ℕ, ◌<◌, List, [], ◌++◌, length, take, drop, get_or, append_assoc, refl, sym, ap, ◌∙◌, drop-cons, suc, Result, Ok, Err, OnOk, OnErr}
use Rattle.std.proofs.lemmas.Grind.{flat_map-append}
use Rattle.std.proofs.lemmas.List.{append-nil, take-append-drop}
use Rattle.std.specs.List.{flat_map}
use Rattle.report.specs.Append.{AppendsPrefix}

-- nothing was appended
pub none_of : (old text : List ℕ) → AppendsPrefix old text old
none_of old text = record { done = []; rest = text; whole = refl; appended = sym (append-nil old) }

-- a prefix of the first part
pub within_first : (old a b new : List ℕ) → AppendsPrefix old a new → AppendsPrefix old (a ++ b) new
within_first old a b new p = record {
  done = p.done;
  rest = p.rest ++ b;
  whole = ap (λ t. t ++ b) p.whole ∙ simp append_assoc;
  appended = p.appended;
}

-- the first part and a prefix of the second
pub within_second : (old a b mid new : List ℕ) → mid ≡ old ++ a → AppendsPrefix mid b new → AppendsPrefix old (a ++ b) new
within_second old a b mid new e p = record {
  done = a ++ p.done;
  rest = p.rest;
  whole = ap (λ t. a ++ t) p.whole ∙ simp append_assoc;
  appended = p.appended ∙ ap (λ t. t ++ p.done) e ∙ simp append_assoc;
}

pub on_err_map : {T E : Type 0} {P Q : Type 0} (r : Result T E) → (P → Q) → OnErr r P → OnErr r Q
on_err_map (Ok x) f p = tt
on_err_map (Err e) f p = f p

pub on_ok_map : {T E : Type 0} {P Q : Type 0} (r : Result T E) → (P → Q) → OnOk r P → OnOk r Q
on_ok_map (Ok x) f p = f p
on_ok_map (Err e) f p = tt

-- two parts, one after the other
pub both : (old a b mid new : List ℕ) → mid ≡ old ++ a → new ≡ mid ++ b → new ≡ old ++ (a ++ b)
both old a b mid new e f = f ∙ ap (λ t. t ++ b) e ∙ simp append_assoc

-- what holds, holds of a refusal
pub refused : {T E : Type 0} (r : Result T E) {P : Type 0} → P → OnErr r P
refused (Ok x) p = tt
refused (Err e) p = p

module _ {T E : Type 0} (r : Result T E) where
  pub refused_in_second : (old a b text mid new : List ℕ) → text ≡ a ++ b → mid ≡ old ++ a → OnErr r (AppendsPrefix mid b new) → OnErr r (AppendsPrefix old text new)
  refused_in_second old a b text mid new whole e p = on_err_map r (λ q. rw whole (within_second old a b mid new e q)) p

  pub refused_in : (old a text new : List ℕ) → text ≡ a → OnErr r (AppendsPrefix old a new) → OnErr r (AppendsPrefix old text new)
  refused_in old a text new whole p = rw whole p

module _ {X : Type 0} (f : X → List ℕ) where
  -- the parts of the first i elements
  parts : (xs : List X) (i : ℕ) → flat_map f xs ≡ flat_map f (take i xs) ++ flat_map f (drop i xs)
  parts xs i = ap (λ zs. flat_map f zs) (sym (take-append-drop i xs)) ∙ flat_map-append f (take i xs) (drop i xs)

  -- the parts of the first i elements were appended
  pub up_to : (old : List ℕ) (xs : List X) (i : ℕ) (new : List ℕ) → new ≡ old ++ flat_map f (take i xs) → AppendsPrefix old (flat_map f xs) new
  up_to old xs i new e = rw (parts xs i) (within_second old _ _ new new e (none_of new _))

  -- and a prefix of the next one
  pub within_next : (old : List ℕ) (xs : List X) (i : ℕ) (d : X) (mid new : List ℕ) → i < length xs
      → mid ≡ old ++ flat_map f (take i xs) → AppendsPrefix mid (f (get_or xs i d)) new → AppendsPrefix old (flat_map f xs) new
  within_next old xs i d mid new inside e p =
      let rest : flat_map f (drop i xs) ≡ f (get_or xs i d) ++ flat_map f (drop (suc i) xs) = rw (drop-cons xs i d inside) refl in
      rw (parts xs i, rest) (within_second old _ _ mid new e (within_first mid (f (get_or xs i d)) _ new p))
