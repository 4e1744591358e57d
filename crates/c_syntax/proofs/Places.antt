-- The place of a word in a list, of which a range alone is searched.
use Rattle.std.proofs.Common.{◌≡◌, ℕ, ◌+◌, ◌-◌, ◌≤◌, Bool, true, false, not, ◌&&◌, eqb, nat_lt, List, [], ◌∷◌, ◌++◌, length, get_or, take, drop, map, Some, position, refl, sym, ap, ◌∙◌, subst, inl, inr, arith, length-append}
use Rattle.std.specs.List.{list_all, prefix_len}
use Rattle.std.specs.Option.{option_map}
use Rattle.std.specs.Str.{bytes_eq}
use Rattle.std.specs.Borrow.{Bor}
use Rattle.std.proofs.lemmas.List.{take-append-drop, drop-drop, length-take-le}
use Rattle.std.proofs.lemmas.List.Sums.{prefix_len-le-length}
use Rattle.std.proofs.lemmas.List.Folds.{prefix_len-append}
use Rattle.std.proofs.lemmas.Bool.{cases_lt, and_parts, eq-eqb, ne_eqb, lt-ltb, le-ltb}
use Rattle.c_syntax.specs.Keywords.{keywords, keyword_number, begins_with}

all_pass : {X : Type 0} (p : X → Bool) (xs : List X) → list_all p xs ≡ true → prefix_len p xs ≡ length xs
all_pass p [] e = refl
all_pass p (x ∷ xs) e = let parts = and_parts (p x) (list_all p xs) e in rw (parts.0, all_pass p xs parts.1) (omega arith)

-- of three parts, the first and the last have no such word
between : {X : Type 0} (p : X → Bool) (before inside behind : List X) → list_all (λ x. not (p x)) before ≡ true → list_all (λ x. not (p x)) behind ≡ true
    → position p (before ++ (inside ++ behind)) ≡ option_map (λ i. length before + i) (position p inside)
between {X} p before inside behind a c =
    let q = λ (x : X). not (p x) in
    let first = all_pass q before a in
    let last = all_pass q behind c in
    let whole : prefix_len q (before ++ (inside ++ behind)) ≡ length before + prefix_len q (inside ++ behind) = prefix_len-append q before (inside ++ behind) ∙ rw (first, eq-eqb (length before) (length before) refl) refl in
    let le = prefix_len-le-length q inside in
    let len : length (before ++ (inside ++ behind)) ≡ length before + (length inside + length behind) = simp length-append refl in
    elim (cases_lt (prefix_len q inside) (length inside)) [
      | inl lt ↦ (
          let apart : eqb (prefix_len q inside) (length inside) ≡ false = ne_eqb _ _ (λ e. absurd (omega arith)) in
          let part : prefix_len q (inside ++ behind) ≡ prefix_len q inside = prefix_len-append q inside behind ∙ rw apart refl in
          let here : nat_lt (prefix_len q (before ++ (inside ++ behind))) (length (before ++ (inside ++ behind))) ≡ true = lt-ltb _ _ (omega (arith, whole, part, len, lt)) in
          let there : nat_lt (prefix_len q inside) (length inside) ≡ true = lt-ltb _ _ lt in
          rw (here, there) (ap Some (whole ∙ ap (λ (n : ℕ). length before + n) part)))
      | inr ge ↦ (
          let same : prefix_len q inside ≡ length inside = omega (arith, le, ge) in
          let part : prefix_len q (inside ++ behind) ≡ length inside + length behind = prefix_len-append q inside behind ∙ rw (same, eq-eqb (length inside) (length inside) refl, last) refl in
          let here : nat_lt (prefix_len q (before ++ (inside ++ behind))) (length (before ++ (inside ++ behind))) ≡ false = le-ltb _ _ (omega (arith, whole, part, len)) in
          let there : nat_lt (prefix_len q inside) (length inside) ≡ false = le-ltb _ _ ge in
          rw (here, there) refl)
    ]

-- words that begin otherwise are other words
others : (b : ℕ) (bs : List ℕ) (words : List (List ℕ)) → list_all (λ word. not (begins_with b word)) words ≡ true → list_all (λ word. not (bytes_eq (b ∷ bs) word)) words ≡ true
others b bs [] e = refl
others b bs (word ∷ words) e =
    let parts = and_parts (not (begins_with b word)) (list_all (λ word. not (begins_with b word)) words) e in
    rw (other word parts.0) (others b bs words parts.1)
  where
    by : (t u : Bool) → not t ≡ true → not (t && u) ≡ true
    by true u e = absurd cc
    by false u e = refl

    other : (word : List ℕ) → not (begins_with b word) ≡ true → not (bytes_eq (b ∷ bs) word) ≡ true
    other [] e = refl
    other (c ∷ cs) e = by (eqb b c) (bytes_eq bs cs) e

-- the range that is searched is the part of the list
pub record IsRange (b from to : ℕ) : Type 0 where
  pub ordered : from ≤ to
  pub within : to ≤ 37
  pub before : list_all (λ word. not (begins_with b word)) (take from keywords) ≡ true
  pub behind : list_all (λ word. not (begins_with b word)) (drop to keywords) ≡ true

-- reading words through references changes no place
refs_len : (p : List ℕ → Bool) (ws : List (Bor (List ℕ))) → prefix_len (λ w. p w.now) ws ≡ prefix_len p (map (λ w. w.now) ws)
refs_len p [] = refl
refs_len p (w ∷ ws) = rw (refs_len p ws) refl

refs_length : (ws : List (Bor (List ℕ))) → length ws ≡ length (map (λ w. w.now) ws)
refs_length [] = refl
refs_length (w ∷ ws) = let e = refs_length ws in omega arith

refs_place : (p : List ℕ → Bool) (ws : List (Bor (List ℕ))) → position (λ w. p w.now) ws ≡ position p (map (λ w. w.now) ws)
refs_place p ws = rw (refs_len (λ w. not (p w)) ws, refs_length ws) refl

-- the number of a text that begins with a byte, by its place among the keywords of a range
pub numbered : (b : ℕ) (bs : List ℕ) (from to : ℕ) (ws : List (Bor (List ℕ))) → IsRange b from to → map (λ w. w.now) ws ≡ take (to - from) (drop from keywords)
    → keyword_number (b ∷ bs) ≡ option_map (λ i. from + i) (position (λ w. bytes_eq (b ∷ bs) w.now) ws)
numbered b bs from to ws r e =
    let text = b ∷ bs in
    let ordered = r.ordered in
    let within = r.within in
    let before = take from keywords in
    let inside = take (to - from) (drop from keywords) in
    let behind = drop (to - from) (drop from keywords) in
    let at : (to - from) + from ≡ to = omega arith in
    let at2 : from + (to - from) ≡ to = omega arith in
    let end : behind ≡ drop to keywords = drop-drop (to - from) from keywords ∙ ap (λ (n : ℕ). drop n keywords) at2 in
    let parts : before ++ (inside ++ behind) ≡ keywords = ap (λ (t : List (List ℕ)). before ++ t) (take-append-drop (to - from) (drop from keywords)) ∙ take-append-drop from keywords in
    let len : length before ≡ from = length-take-le from keywords (omega arith) in
    let none_before = others b bs before r.before in
    let none_behind = others b bs behind (subst (λ (t : List (List ℕ)). list_all (λ word. not (begins_with b word)) t ≡ true) (sym end) r.behind) in
    let found = between (bytes_eq text) before inside behind none_before none_behind in
    let place : position (λ w. bytes_eq text w.now) ws ≡ position (bytes_eq text) inside = refs_place (bytes_eq text) ws ∙ ap (position (bytes_eq text)) e in
    ap (position (bytes_eq text)) (sym parts) ∙ (found ∙ (ap (λ (n : ℕ). option_map (λ i. n + i) (position (bytes_eq text) inside)) len ∙ ap (option_map (λ i. from + i)) (sym place)))

pub numbered_text : (text : List ℕ) (from to : ℕ) (ws : List (Bor (List ℕ))) → 1 ≤ length text → IsRange (get_or text 0 0) from to → map (λ w. w.now) ws ≡ take (to - from) (drop from keywords)
    → keyword_number text ≡ option_map (λ i. from + i) (position (λ w. bytes_eq text w.now) ws)
numbered_text [] from to ws some r e = absurd (omega arith)
numbered_text (b ∷ bs) from to ws some r e = numbered b bs from to ws r e
