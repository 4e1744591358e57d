-- Marking numbers one after the other, as loops do, and all at once.
use Rattle.std.proofs.Common.{◌≡◌, ℕ, zero, suc, ◌-◌, ◌+◌, ◌≤◌, ◌<◌, List, [], ◌∷◌, ◌++◌, Option, Some, None, refl, sym, ap, ◌∙◌, arith}
use Rattle.std.specs.List.{concat}
use Rattle.artifact_codec.specs.declared.window.Window.{Window}
use Rattle.artifact_codec.specs.computed.Reading.{◌>>=◌, number_at, items_at, counted_at, numbers_at}
use Rattle.artifact_codec.specs.computed.Windows.{mark, mark_all, mark_numbers, mark_list, mark_lists, mark_counted, registers}

module _ (count i : ℕ) (w : Window) (bytes : List ℕ) (total : Option (Window × List ℕ)) where
  pub number_missing : i < count → number_at bytes ≡ None → mark_numbers (count - i) w bytes ≡ total → total ≡ None
  unfolding mark_numbers
  number_missing lt h so_far =
      let k : count - i ≡ suc (count - (i + 1)) = omega arith in
      let one : mark_numbers (count - i) w bytes ≡ None = rw (k, h) refl in
      sym so_far ∙ one

  pub number_twice : (n : ℕ) (after : List ℕ) → i < count → number_at bytes ≡ Some (n, after) → mark w n ≡ None → mark_numbers (count - i) w bytes ≡ total → total ≡ None
  unfolding mark_numbers
  number_twice n after lt h m so_far =
      let k : count - i ≡ suc (count - (i + 1)) = omega arith in
      let one : mark_numbers (count - i) w bytes ≡ None = rw (k, h, m) refl in
      sym so_far ∙ one

  pub number_marked : (n : ℕ) (after : List ℕ) (v : Window) → i < count → number_at bytes ≡ Some (n, after) → mark w n ≡ Some v → mark_numbers (count - i) w bytes ≡ total → mark_numbers (count - (i + 1)) v after ≡ total
  unfolding mark_numbers
  number_marked n after v lt h m so_far =
      let k : count - i ≡ suc (count - (i + 1)) = omega arith in
      let one : mark_numbers (count - i) w bytes ≡ mark_numbers (count - (i + 1)) v after = rw (k, h, m) refl in
      sym one ∙ so_far

  pub numbers_done : count ≤ i → mark_numbers (count - i) w bytes ≡ total → total ≡ Some (w, bytes)
  unfolding mark_numbers
  numbers_done le so_far =
      let k : count - i ≡ 0 = omega arith in
      let one : mark_numbers (count - i) w bytes ≡ Some (w, bytes) = rw k refl in
      sym so_far ∙ one

  pub list_missing : i < count → mark_list w bytes ≡ None → mark_lists (count - i) w bytes ≡ total → total ≡ None
  unfolding mark_lists
  list_missing lt h so_far =
      let k : count - i ≡ suc (count - (i + 1)) = omega arith in
      let one : mark_lists (count - i) w bytes ≡ None = rw (k, h) refl in
      sym so_far ∙ one

  pub list_marked : (v : Window) (after : List ℕ) → i < count → mark_list w bytes ≡ Some (v, after) → mark_lists (count - i) w bytes ≡ total → mark_lists (count - (i + 1)) v after ≡ total
  unfolding mark_lists
  list_marked v after lt h so_far =
      let k : count - i ≡ suc (count - (i + 1)) = omega arith in
      let one : mark_lists (count - i) w bytes ≡ mark_lists (count - (i + 1)) v after = rw (k, h) refl in
      sym one ∙ so_far

  pub lists_done : count ≤ i → mark_lists (count - i) w bytes ≡ total → total ≡ Some (w, bytes)
  unfolding mark_lists
  lists_done le so_far =
      let k : count - i ≡ 0 = omega arith in
      let one : mark_lists (count - i) w bytes ≡ Some (w, bytes) = rw k refl in
      sym so_far ∙ one

-- ---- reading and then marking

abbrev then_mark : Window → Option (List ℕ × List ℕ) → Option (Window × List ℕ)
then_mark w read = read >>= λ x. mark_all w x.0 >>= λ v. Some (v, x.1)

nothing_marked : (n : ℕ) (w : Window) (read : Option (List ℕ × List ℕ)) → mark w n ≡ None → None ≡ then_mark w (read >>= λ o. Some (n ∷ o.0, o.1))
unfolding mark_all
nothing_marked n w None h = refl
nothing_marked n w (Some o) h = rw h refl

first_marked : (n : ℕ) (w v : Window) (read : Option (List ℕ × List ℕ)) → mark w n ≡ Some v → then_mark v read ≡ then_mark w (read >>= λ o. Some (n ∷ o.0, o.1))
unfolding mark_all
first_marked n w v None h = refl
first_marked n w v (Some o) h = rw h refl

number_first : (n : ℕ) (w : Window) (rest : List ℕ) (count : ℕ) (m : Option Window) → mark w n ≡ m → ((v : Window) → mark_numbers count v rest ≡ then_mark v (items_at number_at count rest)) → (m >>= λ v. mark_numbers count v rest) ≡ then_mark w (items_at number_at count rest >>= λ o. Some (n ∷ o.0, o.1))
number_first n w rest count None h again = nothing_marked n w (items_at number_at count rest) h
number_first n w rest count (Some v) h again = again v ∙ first_marked n w v (items_at number_at count rest) h

number_split : (count : ℕ) (w : Window) → ((v : Window) (rest : List ℕ) → mark_numbers count v rest ≡ then_mark v (items_at number_at count rest)) → (read : Option (ℕ × List ℕ))
    → (read >>= λ n. mark w n.0 >>= λ v. mark_numbers count v n.1) ≡ then_mark w (read >>= λ f. items_at number_at count f.1 >>= λ o. Some (f.0 ∷ o.0, o.1))
number_split count w again None = refl
number_split count w again (Some n) = number_first n.0 w n.1 count (mark w n.0) refl (λ v. again v n.1)

numbers_marked : (count : ℕ) (w : Window) (bytes : List ℕ) → mark_numbers count w bytes ≡ then_mark w (items_at number_at count bytes)
unfolding mark_numbers items_at mark_all
numbers_marked zero w bytes = refl
numbers_marked (suc count) w bytes = number_split count w (λ v rest. numbers_marked count v rest) (number_at bytes)

list_is_marked : (w : Window) (bytes : List ℕ) → mark_list w bytes ≡ then_mark w (numbers_at bytes)
unfolding mark_list counted_at
list_is_marked w bytes = split (number_at bytes)
  where
    split : (read : Option (ℕ × List ℕ)) → (read >>= λ c. mark_numbers c.0 w c.1) ≡ then_mark w (read >>= λ c. items_at number_at c.0 c.1)
    split None = refl
    split (Some c) = numbers_marked c.0 w c.1

-- the numbers of all lists

append_split : (ns ms : List ℕ) → ((v : Window) → mark_all v (ns ++ ms) ≡ (mark_all v ns >>= λ v. mark_all v ms)) → (m : Option Window) → (m >>= λ v. mark_all v (ns ++ ms)) ≡ ((m >>= λ v. mark_all v ns) >>= λ v. mark_all v ms)
append_split ns ms again None = refl
append_split ns ms again (Some v) = again v

marked-append : (ns ms : List ℕ) (w : Window) → mark_all w (ns ++ ms) ≡ (mark_all w ns >>= λ v. mark_all v ms)
unfolding mark_all
marked-append [] ms w = refl
marked-append (n ∷ ns) ms w = append_split ns ms (λ v. marked-append ns ms v) (mark w n)

abbrev pair_with : List ℕ → Window → Option (Window × List ℕ)
pair_with rest v = Some (v, rest)

abbrev then_mark_lists : Window → Option (List (List ℕ) × List ℕ) → Option (Window × List ℕ)
then_mark_lists w read = read >>= λ x. mark_all w (concat x.0) >>= λ v. Some (v, x.1)

none_marked : (ns : List ℕ) (w : Window) (read : Option (List (List ℕ) × List ℕ)) → mark_all w ns ≡ None → None ≡ then_mark_lists w (read >>= λ o. Some (ns ∷ o.0, o.1))
none_marked ns w None h = refl
none_marked ns w (Some o) h = rw (marked-append ns (concat o.0) w, h) refl

list_first : (ns : List ℕ) (w v : Window) (read : Option (List (List ℕ) × List ℕ)) → mark_all w ns ≡ Some v → then_mark_lists v read ≡ then_mark_lists w (read >>= λ o. Some (ns ∷ o.0, o.1))
list_first ns w v None h = refl
list_first ns w v (Some o) h = rw (marked-append ns (concat o.0) w, h) refl

lists_first : (ns : List ℕ) (w : Window) (rest : List ℕ) (count : ℕ) (m : Option Window) → mark_all w ns ≡ m → ((v : Window) → mark_lists count v rest ≡ then_mark_lists v (items_at numbers_at count rest))
    → ((m >>= pair_with rest) >>= λ v. mark_lists count v.0 v.1) ≡ then_mark_lists w (items_at numbers_at count rest >>= λ o. Some (ns ∷ o.0, o.1))
lists_first ns w rest count None h again = none_marked ns w (items_at numbers_at count rest) h
lists_first ns w rest count (Some v) h again = again v ∙ list_first ns w v (items_at numbers_at count rest) h

list_split : (count : ℕ) (w : Window) → ((v : Window) (rest : List ℕ) → mark_lists count v rest ≡ then_mark_lists v (items_at numbers_at count rest)) → (read : Option (List ℕ × List ℕ))
    → (then_mark w read >>= λ v. mark_lists count v.0 v.1) ≡ then_mark_lists w (read >>= λ f. items_at numbers_at count f.1 >>= λ o. Some (f.0 ∷ o.0, o.1))
list_split count w again None = refl
list_split count w again (Some f) = lists_first f.0 w f.1 count (mark_all w f.0) refl (λ v. again v f.1)

lists_marked : (count : ℕ) (w : Window) (bytes : List ℕ) → mark_lists count w bytes ≡ then_mark_lists w (items_at numbers_at count bytes)
unfolding mark_lists items_at mark_all
lists_marked zero w bytes = refl
lists_marked (suc count) w bytes = ap (λ m. m >>= λ v. mark_lists count v.0 v.1) (list_is_marked w bytes) ∙ list_split count w (λ v rest. lists_marked count v rest) (numbers_at bytes)

drop_rest : (w : Window) (read : Option (List (List ℕ) × List ℕ)) → (then_mark_lists w read >>= λ v. Some v.0) ≡ ((read >>= λ x. Some (concat x.0)) >>= mark_all w)
drop_rest w None = refl
drop_rest w (Some x) = split (mark_all w (concat x.0))
  where
    split : (m : Option Window) → ((m >>= pair_with x.1) >>= λ v. Some v.0) ≡ m
    split None = refl
    split (Some v) = refl

pub counted_marked : (w : Window) (bytes : List ℕ) → mark_counted w bytes ≡ (registers bytes >>= mark_all w)
unfolding mark_counted registers counted_at
counted_marked w bytes = split (number_at bytes)
  where
    split : (read : Option (ℕ × List ℕ)) → (read >>= λ c. mark_lists c.0 w c.1 >>= λ v. Some v.0) ≡ (((read >>= λ c. items_at numbers_at c.0 c.1) >>= λ x. Some (concat x.0)) >>= mark_all w)
    split None = refl
    split (Some c) = ap (λ m. m >>= λ v. Some v.0) (lists_marked c.0 w c.1) ∙ drop_rest w (items_at numbers_at c.0 c.1)
