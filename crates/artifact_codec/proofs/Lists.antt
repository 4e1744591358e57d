-- Lists of values that are read, and that are gone past.
use Rattle.std.proofs.Common.{◌≡◌, ℕ, zero, suc, Bool, true, false, ◌&&◌, List, [], ◌∷◌, ◌++◌, length, Option, Some, None, refl, sym, ap, subst, ◌∙◌, append_assoc}
use Rattle.std.specs.List.{list_all, flat_map}
use Rattle.std.specs.Option.{option_map}
use Rattle.std.proofs.lemmas.Bool.{and_parts, and_from}
use Rattle.artifact_codec.specs.Spelling.{number, counted}
use Rattle.artifact_codec.specs.Demands.{is_short, is_u32, is_after, ascend_from}
use Rattle.artifact_codec.specs.computed.Reading.{items_at, counted_at}
use Rattle.artifact_codec.specs.computed.Checking.{past_all, past_in_order, counted_past, ordered_past}
use Rattle.artifact_codec.proofs.Parts.{IsBytes, bind_some, some_is, first, Takes, Takes-then, number_field}

-- a list of no value
pub Takes-none : (bytes : List ℕ) → IsBytes bytes → Takes bytes [] bytes
Takes-none bytes fits = record { parts = refl; rest_fits = fits }

-- ---- reading

-- what was written is read again
abbrev pub Again : {A : Type 0} → (List ℕ → Option (A × List ℕ)) → (A → List ℕ) → (A → Bool) → Type 0
Again {A} at spell good = (x : A) (rest : List ℕ) → good x ≡ true → at (spell x ++ rest) ≡ Some (x, rest)

pub items_again : {A : Type 0} (at : List ℕ → Option (A × List ℕ)) (spell : A → List ℕ) (good : A → Bool) → Again at spell good → (xs : List A) (rest : List ℕ) → list_all good xs ≡ true → items_at at (length xs) (flat_map spell xs ++ rest) ≡ Some (xs, rest)
unfolding items_at
items_again at spell good again [] rest h = refl
items_again at spell good again (x ∷ xs) rest h =
    let p = and_parts (good x) (list_all good xs) h in
    let regrouped : flat_map spell (x ∷ xs) ++ rest ≡ spell x ++ (flat_map spell xs ++ rest) = append_assoc (spell x) (flat_map spell xs) rest in
    ap (items_at at (suc (length xs))) regrouped ∙ rw (again x (flat_map spell xs ++ rest) p.0, items_again at spell good again xs rest p.1) refl

abbrev pub good_list : {A : Type 0} → (A → Bool) → List A → Bool
good_list good xs = is_short xs && list_all good xs

pub counted_again : {A : Type 0} (at : List ℕ → Option (A × List ℕ)) (spell : A → List ℕ) (good : A → Bool) → Again at spell good → Again (counted_at at) (counted spell) (good_list good)
unfolding counted_at
counted_again at spell good again xs rest h =
    let p = and_parts (is_short xs) (list_all good xs) h in
    ap (counted_at at) (append_assoc (number (length xs)) (flat_map spell xs) rest)
    ∙ rw (number_field.again (length xs) (flat_map spell xs ++ rest) p.0) (items_again at spell good again xs rest p.1)

-- ---- going past

-- a value that was gone past
pub record Gone {A : Type 0} (spell : A → List ℕ) (good : A → Bool) (bytes rest : List ℕ) : Type 0 where
  pub value : A
  pub takes : Takes bytes (spell value) rest
  pub holds : good value ≡ true

pub record IsPast {A : Type 0} (past : List ℕ → Option (List ℕ)) (spell : A → List ℕ) (good : A → Bool) : Type 0 where
  pub takes : (bytes rest : List ℕ) → IsBytes bytes → past bytes ≡ Some rest → Gone spell good bytes rest
  pub again : (x : A) (rest : List ℕ) → good x ≡ true → past (spell x ++ rest) ≡ Some rest

-- values that were gone past, so many
pub record GoneList {A : Type 0} (spell : A → List ℕ) (good : List A → Bool) (count : ℕ) (bytes rest : List ℕ) : Type 0 where
  pub values : List A
  pub count_is : length values ≡ count
  pub takes : Takes bytes (flat_map spell values) rest
  pub holds : good values ≡ true

counted_gone : {A : Type 0} (spell : A → List ℕ) (good : List A → Bool) (count : ℕ) (bytes mid rest : List ℕ) → Takes bytes (number count) mid → is_u32 count ≡ true → GoneList spell good count mid rest → Gone (counted spell) (λ xs. is_short xs && good xs) bytes rest
counted_gone spell good count bytes mid rest front small g = record {
  value = g.values;
  takes = Takes-then bytes (number (length g.values)) mid (flat_map spell g.values) rest (subst (λ k. Takes bytes (number k) mid) (sym g.count_is) front) g.takes;
  holds = and_from (is_short g.values) (good g.values) (subst (λ k. is_u32 k ≡ true) (sym g.count_is) small) g.holds;
}

module _ {A : Type 0} (past : List ℕ → Option (List ℕ)) (spell : A → List ℕ) (good : A → Bool) (is : IsPast past spell good) where
  all_takes : (count : ℕ) (bytes rest : List ℕ) → IsBytes bytes → past_all past count bytes ≡ Some rest → GoneList spell (list_all good) count bytes rest
  unfolding past_all
  all_takes zero bytes rest fits e = record { values = []; count_is = refl; takes = subst (λ r. Takes bytes [] r) (some_is bytes rest e) (Takes-none bytes fits); holds = refl }
  all_takes (suc n) bytes rest fits e =
      let b = bind_some (past bytes) (past_all past n) rest e in
      let g = is.takes bytes b.0 fits b.1 in
      let gs = all_takes n b.0 rest g.takes.rest_fits b.2 in
      record {
        values = g.value ∷ gs.values;
        count_is = ap suc gs.count_is;
        takes = Takes-then bytes (spell g.value) b.0 (flat_map spell gs.values) rest g.takes gs.takes;
        holds = and_from (good g.value) (list_all good gs.values) g.holds gs.holds;
      }

  pub all_past_again : (xs : List A) (rest : List ℕ) → list_all good xs ≡ true → past_all past (length xs) (flat_map spell xs ++ rest) ≡ Some rest
  unfolding past_all
  all_past_again [] rest h = refl
  all_past_again (x ∷ xs) rest h =
      let p = and_parts (good x) (list_all good xs) h in
      ap (past_all past (suc (length xs))) (append_assoc (spell x) (flat_map spell xs) rest) ∙ rw (is.again x (flat_map spell xs ++ rest) p.0) (all_past_again xs rest p.1)

  pub all_gone : (count : ℕ) (bytes rest : List ℕ) → IsBytes bytes → past_all past count bytes ≡ Some rest → GoneList spell (list_all good) count bytes rest
  all_gone = all_takes

  pub counted_is_past : IsPast (counted_past past) (counted spell) (good_list good)
  unfolding counted_past
  counted_is_past = record {
    takes = λ bytes rest fits e.
        let f = first number_field (λ n. past_all past n.0 n.1) bytes rest fits e in
        counted_gone spell (list_all good) f.value bytes f.rest rest f.takes f.holds (all_takes f.value f.rest rest f.takes.rest_fits f.then_is);
    again = λ xs rest h.
        let p = and_parts (is_short xs) (list_all good xs) h in
        ap (counted_past past) (append_assoc (number (length xs)) (flat_map spell xs) rest)
        ∙ rw (number_field.again (length xs) (flat_map spell xs ++ rest) p.0) (all_past_again xs rest p.1);
  }

-- ---- going past values in order

-- a value that was gone past, with what orders it
pub record GoneNext {A K : Type 0} (spell : A → List ℕ) (key : A → K) (good : Option K → A → Bool) (last : Option K) (bytes : List ℕ) (k : K) (rest : List ℕ) : Type 0 where
  pub value : A
  pub key_is : key value ≡ k
  pub takes : Takes bytes (spell value) rest
  pub holds : good last value ≡ true

pub record IsNext {A K : Type 0} (next : Option K → List ℕ → Option (K × List ℕ)) (spell : A → List ℕ) (key : A → K) (good : Option K → A → Bool) : Type 0 where
  pub takes : (last : Option K) (bytes : List ℕ) (k : K) (rest : List ℕ) → IsBytes bytes → next last bytes ≡ Some (k, rest) → GoneNext spell key good last bytes k rest
  pub again : (last : Option K) (x : A) (rest : List ℕ) → good last x ≡ true → next last (spell x ++ rest) ≡ Some (key x, rest)

-- each value holds with what orders the one before it
abbrev pub chain : {A K : Type 0} → (A → K) → (Option K → A → Bool) → Option K → List A → Bool
chain key good last [] = true
chain key good last (x ∷ xs) = good last x && chain key good (Some (key x)) xs

module _ {A K : Type 0} (next : Option K → List ℕ → Option (K × List ℕ)) (spell : A → List ℕ) (key : A → K) (good : Option K → A → Bool) (is : IsNext next spell key good) where
  pub order_takes : (count : ℕ) (last : Option K) (bytes rest : List ℕ) → IsBytes bytes → past_in_order next count last bytes ≡ Some rest → GoneList spell (chain key good last) count bytes rest
  unfolding past_in_order
  order_takes zero last bytes rest fits e = record { values = []; count_is = refl; takes = subst (λ r. Takes bytes [] r) (some_is bytes rest e) (Takes-none bytes fits); holds = refl }
  order_takes (suc n) last bytes rest fits e =
      let b = bind_some (next last bytes) (λ x. past_in_order next n (Some x.0) x.1) rest e in
      let g = is.takes last bytes b.0.0 b.0.1 fits b.1 in
      let gs = order_takes n (Some b.0.0) b.0.1 rest g.takes.rest_fits b.2 in
      record {
        values = g.value ∷ gs.values;
        count_is = ap suc gs.count_is;
        takes = Takes-then bytes (spell g.value) b.0.1 (flat_map spell gs.values) rest g.takes gs.takes;
        holds = and_from (good last g.value) (chain key good (Some (key g.value)) gs.values) g.holds (subst (λ k. chain key good (Some k) gs.values ≡ true) (sym g.key_is) gs.holds);
      }

  pub order_again : (xs : List A) (last : Option K) (rest : List ℕ) → chain key good last xs ≡ true → past_in_order next (length xs) last (flat_map spell xs ++ rest) ≡ Some rest
  unfolding past_in_order
  order_again [] last rest h = refl
  order_again (x ∷ xs) last rest h =
      let p = and_parts (good last x) (chain key good (Some (key x)) xs) h in
      ap (past_in_order next (suc (length xs)) last) (append_assoc (spell x) (flat_map spell xs) rest) ∙ rw (is.again last x (flat_map spell xs ++ rest) p.0) (order_again xs (Some (key x)) rest p.1)

  pub ordered_is_past : IsPast (ordered_past next) (counted spell) (λ xs. is_short xs && chain key good None xs)
  unfolding ordered_past
  ordered_is_past = record {
    takes = λ bytes rest fits e.
        let f = first number_field (λ n. past_in_order next n.0 None n.1) bytes rest fits e in
        counted_gone spell (chain key good None) f.value bytes f.rest rest f.takes f.holds (order_takes f.value None f.rest rest f.takes.rest_fits f.then_is);
    again = λ xs rest h.
        let p = and_parts (is_short xs) (chain key good None xs) h in
        ap (ordered_past next) (append_assoc (number (length xs)) (flat_map spell xs) rest)
        ∙ rw (number_field.again (length xs) (flat_map spell xs ++ rest) p.0) (order_again xs None rest p.1);
  }

-- ---- the demands on one value and on the order, taken apart

shuffle : (a b c d : Bool) → ((a && b) && (c && d)) ≡ ((a && c) && (b && d))
shuffle true true c d = refl
shuffle true false true d = refl
shuffle true false false d = refl
shuffle false b c d = refl

-- one after the other, where each is good and after the one before it
pub chain_is : {A K : Type 0} (key : A → K) (one : A → Bool) (before : K → K → Bool) (last : Option A) (xs : List A)
    → chain key (λ k x. one x && is_after before k (key x)) (option_map key last) xs ≡ (list_all one xs && ascend_from (λ a b. before (key a) (key b)) last xs)
chain_is key one before last [] = refl
chain_is key one before None (x ∷ xs) =
    ap (λ r. (one x && true) && r) (chain_is key one before (Some x) xs)
    ∙ shuffle (one x) true (list_all one xs) (ascend_from (λ a b. before (key a) (key b)) (Some x) xs)
chain_is key one before (Some y) (x ∷ xs) =
    ap (λ r. (one x && before (key y) (key x)) && r) (chain_is key one before (Some x) xs)
    ∙ shuffle (one x) (before (key y) (key x)) (list_all one xs) (ascend_from (λ a b. before (key a) (key b)) (Some x) xs)

pub list_all_both : {A : Type 0} (p q : A → Bool) (xs : List A) → list_all (λ x. p x && q x) xs ≡ (list_all p xs && list_all q xs)
list_all_both p q [] = refl
list_all_both p q (x ∷ xs) = ap (λ r. (p x && q x) && r) (list_all_both p q xs) ∙ shuffle (p x) (q x) (list_all p xs) (list_all q xs)
