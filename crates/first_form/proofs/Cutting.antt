-- What the lexer's function gives are the cuts of the text, and it gives all cuts whose tokens the form has.
use Rattle.std.proofs.Common.{◌≡◌, ◌⊎◌, ℕ, zero, suc, ◌+◌, ◌≤◌, Bool, true, false, ◌&&◌, eqb, List, [], ◌∷◌, ◌++◌, length, take, drop, Option, Some, None, refl, sym, ap, ◌∙◌, subst, inl, inr, arith, zero-add, length-append, length-drop}
use Rattle.std.specs.List.{prefix_len}
use Rattle.std.proofs.lemmas.List.{take_at, drop_at, take-append-drop, length-take-le, append-nil}
use Rattle.std.proofs.lemmas.List.Sums.{prefix_len-le-length}
use Rattle.std.proofs.lemmas.Bool.{cases_Bool, cases_eq, eq-eqb, ne_eqb, and_cases, and_left, and_right, eqb-false}
use Rattle.c_lexer.specs.Bytes.{is_digit, is_nondigit, is_word_byte, is_number_byte}
use Rattle.first_form.specs.Marks.{is_mark}
use Rattle.first_form.specs.Pieces.{Piece}
use Rattle.first_form.specs.computed.Scan.{piece_len, begins_with, put_first, pieces_from}
use Rattle.first_form.specs.Cuts.{AllAre, IsLongest, AllBlank, line_after, col_after, Cuts}
use Rattle.first_form.proofs.Lexing.{piece_step, none_step}
use Rattle.first_form.proofs.Longest.{Stops, Kind, Word, Digits, Mark, IsOfKind, IsClosed, digit_is_number, digit_no_nondigit, mark_no_nondigit, mark_no_digit, longest_of, closed_of, begins_dark}

-- ---- runs of bytes of one kind

run_len : (p : ℕ → Bool) (xs ys : List ℕ) → AllAre p xs → Stops p ys → prefix_len p (xs ++ ys) ≡ length xs
run_len p [] [] all stop = refl
run_len p [] (y ∷ ys) all stop = rw stop refl
run_len p (x ∷ xs) ys all stop = rw (all.0, run_len p xs ys all.1 stop) (omega arith)

run_all_by : (p : ℕ → Bool) (x : ℕ) (xs : List ℕ) (b : Bool) → p x ≡ b → AllAre p (take (prefix_len p xs) xs) → AllAre p (take (prefix_len p (x ∷ xs)) (x ∷ xs))
run_all_by p x xs true e h = let s : 1 + prefix_len p xs ≡ suc (prefix_len p xs) = omega arith in rw (e, s) (e, h)
run_all_by p x xs false e h = rw e tt

run_all : (p : ℕ → Bool) (xs : List ℕ) → AllAre p (take (prefix_len p xs) xs)
run_all p [] = tt
run_all p (x ∷ xs) = run_all_by p x xs (p x) refl (run_all p xs)

run_stops_by : (p : ℕ → Bool) (x : ℕ) (xs : List ℕ) (b : Bool) → p x ≡ b → Stops p (drop (prefix_len p xs) xs) → Stops p (drop (prefix_len p (x ∷ xs)) (x ∷ xs))
run_stops_by p x xs true e h = let s : 1 + prefix_len p xs ≡ suc (prefix_len p xs) = omega arith in rw (e, s) h
run_stops_by p x xs false e h = rw e e

run_stops : (p : ℕ → Bool) (xs : List ℕ) → Stops p (drop (prefix_len p xs) xs)
run_stops p [] = tt
run_stops p (x ∷ xs) = run_stops_by p x xs (p x) refl (run_stops p xs)

-- ---- one token

-- digits that are the whole of a preprocessing number
digits_stop : (xs : List ℕ) → prefix_len is_number_byte xs ≡ prefix_len is_digit xs → Stops is_number_byte (drop (prefix_len is_digit xs) xs)
digits_stop xs e = subst (λ (n : ℕ). Stops is_number_byte (drop n xs)) e (run_stops is_number_byte xs)

digits_are : (xs : List ℕ) → AllAre is_digit xs → AllAre is_number_byte xs
digits_are [] all = tt
digits_are (x ∷ xs) all = (digit_is_number x all.0, digits_are xs all.1)

number_stop_digit : (ys : List ℕ) → Stops is_number_byte ys → Stops is_digit ys
number_stop_digit [] h = tt
number_stop_digit (y ∷ ys) h = elim (cases_Bool (is_digit y)) [
  | inl d ↦ absurd (let bad : true ≡ false = sym (digit_is_number y d) ∙ h in cc)
  | inr d ↦ d
]

-- the token at the front that the lexer's function finds
pub record Found (b : ℕ) (bs : List ℕ) (n : ℕ) : Type 0 where
  pub more : ℕ
  pub length_is : n ≡ suc more
  pub within : more ≤ length bs
  pub cut : IsLongest (b ∷ take more bs) (drop more bs)

found_word : (b : ℕ) (bs : List ℕ) (n : ℕ) → is_nondigit b ≡ true → piece_len (b ∷ bs) ≡ Some n → Found b bs n
found_word b bs n w e =
    let is : Some (1 + prefix_len is_word_byte bs) ≡ Some n = rw w at e in
    let n-is : 1 + prefix_len is_word_byte bs ≡ n = cc in
    let k = prefix_len is_word_byte bs in
    record { more = k; length_is = omega arith; within = prefix_len-le-length is_word_byte bs; cut = longest_of Word (b ∷ take k bs) (drop k bs) (w, run_all is_word_byte bs) (run_stops is_word_byte bs) }

found_number : (b : ℕ) (bs : List ℕ) (n : ℕ) → is_nondigit b ≡ false → is_digit b ≡ true → piece_len (b ∷ bs) ≡ Some n → Found b bs n
found_number b bs n w d e = elim (cases_eq (prefix_len is_number_byte bs) (prefix_len is_digit bs)) [
  | inl same ↦ (
      let is : Some (1 + prefix_len is_digit bs) ≡ Some n = rw (w, d, eq-eqb _ _ same) at e in
      let n-is : 1 + prefix_len is_digit bs ≡ n = cc in
      let k = prefix_len is_digit bs in
      record { more = k; length_is = omega arith; within = prefix_len-le-length is_digit bs; cut = longest_of Digits (b ∷ take k bs) (drop k bs) (d, run_all is_digit bs) (digits_stop bs same) })
  | inr apart ↦ absurd (let bad : ◌≡◌ {A = Option ℕ} None (Some n) = rw (w, d, ne_eqb _ _ apart) at e in cc)
]

equals_stop : (b : ℕ) (bs : List ℕ) → (eqb b 61 && begins_with 61 bs) ≡ false → b ≡ 61 → Stops (λ c. eqb c 61) bs
equals_stop b [] e is = tt
equals_stop b (c ∷ cs) e is = elim (and_cases _ _ e) [ inl other ↦ absurd (eqb-false _ _ other is) | inr other ↦ other ]

first_byte : (b c : ℕ) (bs : List ℕ) → b ∷ bs ≡ c ∷ [] → b ≡ c
first_byte b c bs e = cc

found_mark : (b : ℕ) (bs : List ℕ) (n : ℕ) → is_nondigit b ≡ false → is_digit b ≡ false → piece_len (b ∷ bs) ≡ Some n → Found b bs n
found_mark b bs n w d e = elim (cases_Bool (is_mark b)) [
  | inl m ↦ elim (cases_Bool (eqb b 61 && begins_with 61 bs)) [
    | inl two ↦ absurd (let bad : ◌≡◌ {A = Option ℕ} None (Some n) = rw (w, d, m, two) at e in cc)
    | inr one ↦ (
        let is : ◌≡◌ {A = Option ℕ} (Some 1) (Some n) = rw (w, d, m, one) at e in
        let n-is : 1 ≡ n = cc in
        record { more = 0; length_is = omega arith; within = omega arith; cut = longest_of Mark (b ∷ []) bs (m, refl) (λ e. equals_stop b bs one (first_byte b 61 [] e)) })
  ]
  | inr other ↦ absurd (let bad : ◌≡◌ {A = Option ℕ} None (Some n) = rw (w, d, other) at e in cc)
]

found : (b : ℕ) (bs : List ℕ) (n : ℕ) → piece_len (b ∷ bs) ≡ Some n → Found b bs n
found b bs n e = elim (cases_Bool (is_nondigit b)) [
  | inl w ↦ found_word b bs n w e
  | inr w ↦ elim (cases_Bool (is_digit b)) [ inl d ↦ found_number b bs n w d e | inr d ↦ found_mark b bs n w d e ]
]

-- a mark is no first half of a longer one
no_second : (b : ℕ) (rest : List ℕ) → (b ≡ 61 → Stops (λ c. eqb c 61) rest) → (eqb b 61 && begins_with 61 rest) ≡ false
no_second b [] stop = and_right _ _ refl
no_second b (c ∷ rest) stop = elim (cases_eq b 61) [ inl is ↦ and_right _ _ (stop is) | inr other ↦ and_left _ _ (ne_eqb _ _ other) ]

token_len : (k : Kind) (b : ℕ) (bs rest : List ℕ) → IsOfKind k (b ∷ bs) → IsClosed k (b ∷ bs) rest → piece_len (b ∷ (bs ++ rest)) ≡ Some (1 + length bs)
token_len Word b bs rest h stop = rw (h.0, run_len is_word_byte bs rest h.1 stop) refl
token_len Digits b bs rest h stop = rw (digit_no_nondigit b h.0, h.0, run_len is_number_byte bs rest (digits_are bs h.1) stop, run_len is_digit bs rest h.1 (number_stop_digit rest stop), eq-eqb (length bs) (length bs) refl) refl
token_len Mark b [] rest h stop = rw (mark_no_nondigit b h.0, mark_no_digit b h.0, h.0, no_second b rest (λ e. stop (ap (λ (c : ℕ). c ∷ []) e))) refl
token_len Mark b (c ∷ cs) rest h stop = absurd (let bad : c ∷ cs ≡ [] = h.1 in cc)

-- ---- the whole text

cut_blank : (line col b : ℕ) (bs : List ℕ) (ps : List Piece) → (b ≡ 10) ⊎ (b ≡ 32) → Cuts (line_after line (b ∷ [])) (col_after col (b ∷ [])) bs ps → Cuts line col (b ∷ bs) ps
cut_blank line col b bs [] blank h = (blank, h)
cut_blank line col b bs (p ∷ ps) blank h = record {
  white = b ∷ h.white;
  rest = h.rest;
  blank = (blank, h.blank);
  parts = ap (λ (t : List ℕ). b ∷ t) h.parts;
  line_is = h.line_is;
  col_is = h.col_is;
  cut = h.cut;
  behind = h.behind;
}

put_some : (p : Piece) (rest : Option (List Piece)) (ps : List Piece) → put_first p rest ≡ Some ps → (qs : List Piece) × (rest ≡ Some qs) × (p ∷ qs ≡ ps)
put_some p None ps e = absurd cc
put_some p (Some qs) ps e = (qs, refl, cc)

cases_option : (o : Option ℕ) → (o ≡ None) ⊎ ((n : ℕ) × (o ≡ Some n))
cases_option None = inl refl
cases_option (Some n) = inr (n, refl)

cut_token : (line col b k : ℕ) (bs : List ℕ) (qs : List Piece) → k ≤ length bs → IsLongest (b ∷ take k bs) (drop k bs) → Cuts line (col + suc k) (drop k bs) qs → Cuts line col (b ∷ bs) (record { text = b ∷ take k bs; line = line; col = col } ∷ qs)
cut_token line col b k bs qs le cut h =
    let len : suc (length (take k bs)) ≡ suc k = simp length-take-le (omega arith) in
    record {
      white = [];
      rest = drop k bs;
      blank = tt;
      parts = ap (λ (t : List ℕ). b ∷ t) (sym (take-append-drop k bs));
      line_is = refl;
      col_is = refl;
      cut = cut;
      behind = subst (λ (n : ℕ). Cuts line (col + n) (drop k bs) qs) (sym len) h;
    }

pub cuts_of : (fuel line col : ℕ) (bs : List ℕ) (ps : List Piece) → length bs ≤ fuel → pieces_from 0 line col bs ≡ Some ps → Cuts line col bs ps
unfolding pieces_from
cuts_of fuel line col [] ps le e = subst (λ (qs : List Piece). Cuts line col [] qs) (let same : [] ≡ ps = cc in same) tt
cuts_of zero line col (b ∷ bs) ps le e = absurd (omega arith)
cuts_of (suc fuel) line col (b ∷ bs) ps le e = elim (cases_eq b 10) [
  | inl is ↦ (
      let e' : pieces_from 0 (line + 1) 1 bs ≡ Some ps = rw (eq-eqb _ _ is) at e in
      cut_blank line col b bs ps (inl is) (rw (eq-eqb _ _ is) (cuts_of fuel (line + 1) 1 bs ps (omega arith) e')))
  | inr line_goes_on ↦ elim (cases_eq b 32) [
    | inl is ↦ (
        let e' : pieces_from 0 line (col + 1) bs ≡ Some ps = rw (ne_eqb _ _ line_goes_on, eq-eqb _ _ is) at e in
        cut_blank line col b bs ps (inr is) (rw (ne_eqb _ _ line_goes_on) (cuts_of fuel line (col + 1) bs ps (omega arith) e')))
    | inr no_space ↦ elim (cases_option (piece_len (b ∷ bs))) [
      | inl none ↦ absurd (let n : pieces_from 0 line col (b ∷ bs) ≡ None = none_step line col (b ∷ bs) 0 (omega arith) line_goes_on no_space none in let bad : ◌≡◌ {A = Option (List Piece)} None (Some ps) = sym n ∙ e in cc)
      | inr some ↦ (
          let f = found b bs some.0 some.1 in
          let some' : piece_len (b ∷ bs) ≡ Some (suc f.more) = some.1 ∙ ap Some f.length_is in
          let step = piece_step line col (b ∷ bs) 0 (suc f.more) (omega arith) line_goes_on no_space some' (omega arith) (omega (arith, f.within)) in
          let whole = put_some _ _ ps (sym step ∙ e) in
          let rest : pieces_from 0 line (col + suc f.more) (drop f.more bs) ≡ Some whole.0 = subst (λ (n : ℕ). pieces_from 0 line (col + suc f.more) (drop n (b ∷ bs)) ≡ Some whole.0) (zero-add (suc f.more)) whole.1 in
          let h = cuts_of fuel line (col + suc f.more) (drop f.more bs) whole.0 (simp length-drop (omega arith)) rest in
          subst (λ (qs : List Piece). Cuts line col (b ∷ bs) qs) whole.2 (cut_token line col b f.more bs whole.0 f.within f.cut h))
    ]
  ]
]

blank_skip : (white s : List ℕ) (line col : ℕ) → AllBlank white → pieces_from 0 line col (white ++ s) ≡ pieces_from 0 (line_after line white) (col_after col white) s
unfolding pieces_from
blank_skip [] s line col all = refl
blank_skip (b ∷ white) s line col all = elim all.0 [
  | inl is ↦ rw (eq-eqb _ _ is) (blank_skip white s (line + 1) 1 all.1)
  | inr is ↦ (let line_goes_on : b ≡ 10 → ⊥ = λ e. absurd (omega arith) in rw (ne_eqb _ _ line_goes_on, eq-eqb _ _ is) (blank_skip white s line (col + 1) all.1))
]

token_step : (k : Kind) (text rest : List ℕ) (line col : ℕ) → IsOfKind k text → IsLongest text rest → pieces_from 0 line col (text ++ rest) ≡ put_first (record { text = text; line = line; col = col }) (pieces_from 0 line (col + length text) rest)
token_step k [] rest line col h l = absurd h
token_step k (b ∷ bs) rest line col h l =
    let n = begins_dark b bs l.token in
    let step = piece_step line col (b ∷ (bs ++ rest)) 0 (1 + length bs) (omega arith) n.0 n.1 (token_len k b bs rest h (closed_of k (b ∷ bs) rest h l)) (omega arith) (omega (arith, length-append bs rest)) in
    let one : 1 + length bs ≡ suc (length bs) = omega arith in
    let two : 0 + suc (length bs) ≡ suc (length bs) = omega arith in
    let step' = rw (one, two, take_at bs rest (length bs) refl, drop_at bs rest (length bs) refl) at step in
    step'

no_more : (line col : ℕ) → pieces_from 0 line col [] ≡ Some []
unfolding pieces_from
no_more line col = refl

-- each token is one that the form has
abbrev pub AllOfForm : List Piece → Type 0
AllOfForm [] = Unit {0}
AllOfForm (p ∷ ps) = ((k : Kind) × IsOfKind k p.text) × AllOfForm ps

pub pieces_of : (ps : List Piece) (line col : ℕ) (bs : List ℕ) → AllOfForm ps → Cuts line col bs ps → pieces_from 0 line col bs ≡ Some ps
pieces_of [] line col bs all h = ap (pieces_from 0 line col) (sym (append-nil bs)) ∙ blank_skip bs [] line col h ∙ no_more (line_after line bs) (col_after col bs)
pieces_of (p ∷ ps) line col bs all h =
    let white = h.white in
    let rest = h.rest in
    let goes = pieces_of ps p.line (p.col + length p.text) rest all.1 h.behind in
    ap (pieces_from 0 line col) h.parts ∙ blank_skip white (p.text ++ rest) line col h.blank
    ∙ ap (λ (l : ℕ). pieces_from 0 l (col_after col white) (p.text ++ rest)) (sym h.line_is)
    ∙ ap (λ (c : ℕ). pieces_from 0 p.line c (p.text ++ rest)) (sym h.col_is)
    ∙ token_step all.0.0 p.text rest p.line p.col all.0.1 h.cut ∙ ap (put_first p) goes
