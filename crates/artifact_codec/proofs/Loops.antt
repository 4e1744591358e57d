-- Reading values one after the other, as a loop does.
use Rattle.std.proofs.Common.{◌≡◌, ℕ, suc, ◌-◌, ◌+◌, ◌≤◌, ◌<◌, List, [], ◌∷◌, ◌++◌, Option, Some, None, refl, sym, ap, ◌∙◌, append_assoc, arith}
use Rattle.std.proofs.lemmas.List.{append-nil}
use Rattle.artifact_codec.specs.declared.refusal.Refusal.{Refusal}
use Rattle.artifact_codec.specs.declared.refusal.Refusal.TheVariants as refusals
use Rattle.artifact_codec.specs.computed.Reading.{◌>>=◌, Fails, items_at}
use Rattle.artifact_codec.specs.computed.Checking.{past_in_order, past_all}

-- what was read before, and what is still read
abbrev pub with_front : {A : Type 0} → List A → Option (List A × List ℕ) → Option (List A × List ℕ)
with_front front read = read >>= λ x. Some (front ++ x.0, x.1)

regroup : {A : Type 0} (front : List A) (x : A) (read : Option (List A × List ℕ)) → with_front front (read >>= λ y. Some (x ∷ y.0, y.1)) ≡ with_front (front ++ x ∷ []) read
regroup {A} front x (Some y) = ap (λ (xs : List A). Some (xs, y.1)) (sym (append_assoc front (x ∷ []) y.0))
regroup front x None = refl

module _ {A : Type 0} (item : List ℕ → Option (A × List ℕ)) (front : List A) (count i : ℕ) (bytes : List ℕ) (total : Option (List A × List ℕ)) where
  pub goes_on : (x : A) (after : List ℕ) → i < count → item bytes ≡ Some (x, after) → with_front front (items_at item (count - i) bytes) ≡ total → with_front (front ++ x ∷ []) (items_at item (count - (i + 1)) after) ≡ total
  unfolding items_at
  goes_on x after lt h so_far =
      let k : count - i ≡ suc (count - (i + 1)) = omega arith in
      let one : with_front front (items_at item (count - i) bytes) ≡ with_front (front ++ x ∷ []) (items_at item (count - (i + 1)) after) = rw (k, h) (regroup front x (items_at item (count - (i + 1)) after)) in
      sym one ∙ so_far

  pub ends : (e : Refusal) → i < count → Fails e (item bytes) → with_front front (items_at item (count - i) bytes) ≡ total → Fails e total
  unfolding items_at
  ends refusals.NoMemory lt h so_far = tt
  ends refusals.Malformed lt h so_far =
      let k : count - i ≡ suc (count - (i + 1)) = omega arith in
      let one : with_front front (items_at item (count - i) bytes) ≡ None = rw (k, h) refl in
      sym so_far ∙ one

  pub is_done : count ≤ i → with_front front (items_at item (count - i) bytes) ≡ total → total ≡ Some (front, bytes)
  unfolding items_at
  is_done le so_far =
      let k : count - i ≡ 0 = omega arith in
      let one : with_front front (items_at item (count - i) bytes) ≡ Some (front, bytes) = rw k (ap (λ (xs : List A). Some (xs, bytes)) (append-nil front)) in
      sym so_far ∙ one

-- ---- going past values that are each looked at with the one before

module _ {K : Type 0} (next : Option K → List ℕ → Option (K × List ℕ)) (count i : ℕ) (last : Option K) (bytes : List ℕ) (total : Option (List ℕ)) where
  pub order_goes_on : (k : K) (after : List ℕ) → i < count → next last bytes ≡ Some (k, after) → past_in_order next (count - i) last bytes ≡ total → past_in_order next (count - (i + 1)) (Some k) after ≡ total
  unfolding past_in_order
  order_goes_on k after lt h so_far =
      let n : count - i ≡ suc (count - (i + 1)) = omega arith in
      let one : past_in_order next (count - i) last bytes ≡ past_in_order next (count - (i + 1)) (Some k) after = rw (n, h) refl in
      sym one ∙ so_far

  pub order_ends : i < count → next last bytes ≡ None → past_in_order next (count - i) last bytes ≡ total → total ≡ None
  unfolding past_in_order
  order_ends lt h so_far =
      let n : count - i ≡ suc (count - (i + 1)) = omega arith in
      let one : past_in_order next (count - i) last bytes ≡ None = rw (n, h) refl in
      sym so_far ∙ one

  pub order_is_done : count ≤ i → past_in_order next (count - i) last bytes ≡ total → total ≡ Some bytes
  unfolding past_in_order
  order_is_done le so_far =
      let n : count - i ≡ 0 = omega arith in
      let one : past_in_order next (count - i) last bytes ≡ Some bytes = rw n refl in
      sym so_far ∙ one

-- ---- going past values that are looked at alone

module _ (past : List ℕ → Option (List ℕ)) (count i : ℕ) (bytes : List ℕ) (total : Option (List ℕ)) where
  pub all_goes_on : (after : List ℕ) → i < count → past bytes ≡ Some after → past_all past (count - i) bytes ≡ total → past_all past (count - (i + 1)) after ≡ total
  unfolding past_all
  all_goes_on after lt h so_far =
      let n : count - i ≡ suc (count - (i + 1)) = omega arith in
      let one : past_all past (count - i) bytes ≡ past_all past (count - (i + 1)) after = rw (n, h) refl in
      sym one ∙ so_far

  pub all_ends : i < count → past bytes ≡ None → past_all past (count - i) bytes ≡ total → total ≡ None
  unfolding past_all
  all_ends lt h so_far =
      let n : count - i ≡ suc (count - (i + 1)) = omega arith in
      let one : past_all past (count - i) bytes ≡ None = rw (n, h) refl in
      sym so_far ∙ one

  pub all_is_done : count ≤ i → past_all past (count - i) bytes ≡ total → total ≡ Some bytes
  unfolding past_all
  all_is_done le so_far =
      let n : count - i ≡ 0 = omega arith in
      let one : past_all past (count - i) bytes ≡ Some bytes = rw n refl in
      sym so_far ∙ one
