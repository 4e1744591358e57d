-- Names as `IndexSet` keeps them, vectors of bytes, seen as the lists of their bytes.
use Rattle.std.proofs.Common.{◌≡◌, ◌≢◌, ℕ, ◌<◌, ◌≤◌, Bool, true, false, not, cond, get_or, List, [], ◌∷◌, ◌++◌, map, length, Option, None, Some, IfSome, OnSome, IfNone, is_some, position, slice_get, AllPairs, refl, sym, ap, ◌∙◌, arith}
use Rattle.std.proofs.lemmas.List.{length-map}
use Rattle.std.specs.List.{list_any, position_or_len, IsDistinct, AllByRecursion}
use Rattle.std.specs.Str.{bytes_eq}
use Rattle.std.proofs.lemmas.Bool.{ltb-true, ltb-false}
use Rattle.std.proofs.lemmas.List.Sums.{passes_at_first, prefix_len-le-length}
use Rattle.std.proofs.lemmas.Map.Made.{AllPairs-from_IsDistinct}
use Rattle.std.proofs.lemmas.Option.{slice_get-get_or}
use Rattle.std.proofs.lemmas.Slice.Eq.{bytes_eq-Decides}
use Rattle.indexmap.specs.IndexSet.{insert_key}
use Rattle.sv_base.specs.Names.{has_name, number_in}

module _ {V : Type 0} (f : V → List ℕ) (q : List ℕ) where
  has_name-map : (ks : List V) → has_name (map f ks) q ≡ list_any (λ k. bytes_eq q (f k)) ks
  has_name-map [] = refl
  has_name-map (k ∷ ks) = rw (has_name-map ks) refl

  number_in-map : (ks : List V) → number_in (map f ks) q ≡ position_or_len (λ k. bytes_eq q (f k)) ks
  number_in-map [] = refl
  number_in-map (k ∷ ks) = rw (number_in-map ks) refl

  cond_some : (b : Bool) (n i : ℕ) → Some i ≡ cond b (Some n) None → (b ≡ true) × (i ≡ n)
  cond_some true n i e = (refl, cc)
  cond_some false n i e = cc

  cond_none : (b : Bool) (n : ℕ) → None ≡ cond b (Some n) None → b ≡ false
  cond_none true n e = cc
  cond_none false n e = refl

  -- what a look-up among the vectors finds, in terms of their bytes
  pub number_found : (ks : List V) (r : Option ℕ) → r ≡ position (λ k. bytes_eq q (f k)) ks → IfSome r (λ place. place ≡ number_in (map f ks) q)
  number_found ks None e = tt
  number_found ks (Some i) e = (cond_some _ _ i e).1 ∙ sym (number_in-map ks)

  pub name_known : (ks : List V) (r : Option ℕ) → is_some r ≡ list_any (λ k. bytes_eq q (f k)) ks → OnSome r (has_name (map f ks) q ≡ true)
  name_known ks None e = tt
  name_known ks (Some i) e = has_name-map ks ∙ sym e

  pub name_new : (ks : List V) (r : Option ℕ) → is_some r ≡ list_any (λ k. bytes_eq q (f k)) ks → IfNone r (has_name (map f ks) q ≡ false)
  name_new ks None e = has_name-map ks ∙ sym e
  name_new ks (Some i) e = tt

  pub text_found : (ks : List V) (r : Option ℕ) → r ≡ position (λ k. bytes_eq q (f k)) ks → IfSome r (λ place. slice_get (map f ks) place ≡ Some q)
  text_found ks None e = tt
  text_found ks (Some i) e =
      let parts = cond_some _ _ i e in
      let inside : position_or_len (bytes_eq q) (map f ks) < length (map f ks) = rw (number_in-map ks, length-map) (ltb-true _ _ parts.0) in
      let passes = passes_at_first (bytes_eq q) (map f ks) q inside in
      let place : position_or_len (bytes_eq q) (map f ks) ≡ i = number_in-map ks ∙ sym parts.1 in
      let same : q ≡ get_or (map f ks) (position_or_len (bytes_eq q) (map f ks)) q = (bytes_eq-Decides _ _).0 passes in
      rw (← place) (slice_get-get_or (map f ks) _ q inside ∙ ap Some (sym same))

  pub next_number : (ks : List V) (r : Option ℕ) → r ≡ position (λ k. bytes_eq q (f k)) ks → IfNone r (number_in (map f ks) q ≡ length (map f ks))
  next_number ks None e =
      let outside : length ks ≤ position_or_len (λ k. bytes_eq q (f k)) ks = ltb-false _ _ (cond_none _ _ e) in
      let within = prefix_len-le-length (λ k. not (bytes_eq q (f k))) ks in
      rw (number_in-map ks, length-map) (omega arith)
  next_number ks (Some i) e = tt

  map-push : (ks : List V) (k : V) → f k ≡ q → map f (ks ++ k ∷ []) ≡ map f ks ++ q ∷ []
  map-push [] k e = rw e refl
  map-push (x ∷ ks) k e = rw (map-push ks k e) refl

  -- a vector with new bytes goes last
  pub inserted_last : (ks : List V) (k : V) → f k ≡ q → has_name (map f ks) q ≡ false → map f (insert_key (λ a b. bytes_eq (f a) (f b)) ks k) ≡ map f ks ++ q ∷ []
  inserted_last ks k e new =
      let absent : list_any (λ x. bytes_eq (f k) (f x)) ks ≡ false = rw e (sym (has_name-map ks) ∙ new) in
      rw absent (map-push ks k e)

module _ {V : Type 0} (f : V → List ℕ) where
  AllByRecursion-map : (P : List ℕ → Type 0) (ks : List V) → AllByRecursion (λ k. P (f k)) ks → AllByRecursion P (map f ks)
  AllByRecursion-map P [] all = all
  AllByRecursion-map P (k ∷ ks) all = (all.0, AllByRecursion-map P ks all.1)

  IsDistinct-map : (ks : List V) → IsDistinct (λ a b. bytes_eq (f a) (f b)) ks → IsDistinct bytes_eq (map f ks)
  unfolding IsDistinct
  IsDistinct-map [] all = all
  IsDistinct-map (k ∷ ks) all = (AllByRecursion-map (λ y. bytes_eq (f k) y ≡ false) ks all.0, IsDistinct-map ks all.1)

  -- vectors of which no two have the same bytes are distinct names
  pub distinct_names : (ks : List V) → IsDistinct (λ a b. bytes_eq (f a) (f b)) ks → AllPairs (λ a b. a ≢ b) (map f ks)
  distinct_names ks all = AllPairs-from_IsDistinct bytes_eq-Decides (map f ks) (IsDistinct-map ks all)
