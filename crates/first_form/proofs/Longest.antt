-- The tokens that the form has, and what it takes that no longer token begins at their place.
use Rattle.std.proofs.Common.{◌≡◌, ◌≢◌, ℕ, zero, suc, ◌+◌, ◌<◌, ◌≤◌, Bool, true, false, ◌&&◌, ◌||◌, not, eqb, List, [], ◌∷◌, ◌++◌, length, take, refl, sym, ap, ◌∙◌, subst, inl, inr, arith, append_assoc, length-append}
use Rattle.std.specs.List.{list_any, list_all}
use Rattle.std.specs.Str.{bytes_eq}
use Rattle.std.proofs.lemmas.List.{take_at}
use Rattle.std.proofs.lemmas.Slice.Eq.{bytes_eq-Decides}
use Rattle.std.proofs.lemmas.Bool.{cases_Bool, cases_lt, or_cases, or_left, or_right, and_parts, not-true, eqb-true, eq-eqb, false≢true}
use Rattle.std.proofs.lemmas.Bool.Decides.{nat_tests}
use Rattle.c_lexer.specs.Bytes.{is_digit, is_nondigit, is_word_byte, is_number_byte, is_exponent}
use Rattle.first_form.specs.Marks.{is_mark}
use Rattle.first_form.specs.Cuts.{AllAre, GoesOn, punctuators, is_punctuator, IsToken, IsLongest}

-- what follows does not begin with such a byte
abbrev pub Stops : (ℕ → Bool) → List ℕ → Type 0
Stops p [] = Unit {0}
Stops p (b ∷ bs) = p b ≡ false

-- a word, digits or a mark
pub data Kind : Type 0 where
  Word Digits Mark : Kind

abbrev pub IsOfKind : Kind → List ℕ → Type 0
IsOfKind k [] = ⊥
IsOfKind Word (b ∷ bs) = (is_nondigit b ≡ true) × AllAre is_word_byte bs
IsOfKind Digits (b ∷ bs) = (is_digit b ≡ true) × AllAre is_digit bs
IsOfKind Mark (b ∷ bs) = (is_mark b ≡ true) × (bs ≡ [])

-- what stands behind a token of this kind does not go on with it
abbrev pub IsClosed : Kind → List ℕ → List ℕ → Type 0
IsClosed Word text rest = Stops is_word_byte rest
IsClosed Digits text rest = Stops is_number_byte rest
IsClosed Mark text rest = text ≡ 61 ∷ [] → Stops (λ b. eqb b 61) rest

-- ---- kinds of bytes are apart

pub digit_no_nondigit : (b : ℕ) → is_digit b ≡ true → is_nondigit b ≡ false
digit_no_nondigit b e = grind (arith, nat_tests)

pub mark_no_nondigit : (b : ℕ) → is_mark b ≡ true → is_nondigit b ≡ false
mark_no_nondigit b e = grind (arith, nat_tests)

pub mark_no_digit : (b : ℕ) → is_mark b ≡ true → is_digit b ≡ false
mark_no_digit b e = grind (arith, nat_tests)

digit_no_exponent : (b : ℕ) → is_digit b ≡ true → is_exponent b ≡ false
digit_no_exponent b e = grind (arith, nat_tests)

mark_no_period : (b : ℕ) → is_mark b ≡ true → b ≢ 46
mark_no_period b e is = absurd (false≢true (sym (ap is_mark is) ∙ e))

nondigit_no_period : (b : ℕ) → is_nondigit b ≡ true → b ≢ 46
nondigit_no_period b e is = absurd (false≢true (sym (ap is_nondigit is) ∙ e))

both : (x : Bool) → x ≡ true → x ≡ false → ⊥
both x t f = false≢true (sym f ∙ t)

pub digit_is_number : (b : ℕ) → is_digit b ≡ true → is_number_byte b ≡ true
digit_is_number b e = or_left _ _ (or_right _ _ e)

-- ---- the table of punctuators

-- some element passes p, and each passes q, so one passes both
found : (p q : List ℕ → Bool) (xs : List (List ℕ)) → list_any p xs ≡ true → list_all q xs ≡ true → (x : List ℕ) × (p x ≡ true) × (q x ≡ true)
found p q [] some each = absurd (false≢true some)
found p q (x ∷ xs) some each =
    let parts = and_parts (q x) (list_all q xs) each in
    elim (or_cases (p x) (list_any p xs) some) [ inl here ↦ (x, here, parts.0) | inr there ↦ found p q xs there parts.1 ]

-- of a text that is in the table
from_table : (q : List ℕ → Bool) (text : List ℕ) → list_all q punctuators ≡ true → is_punctuator text ≡ true → q text ≡ true
from_table q text each is =
    let f = found (bytes_eq text) q punctuators is each in
    ap q ((bytes_eq-Decides text f.0).0 f.1) ∙ f.2

-- the first byte is no digit, no letter and no blank
abbrev begins_apart : List ℕ → Bool
begins_apart [] = false
begins_apart (b ∷ bs) = not (is_nondigit b) && not (is_digit b) && not (eqb b 10) && not (eqb b 32)

-- behind a mark stands nothing, but for `==`
abbrev goes_on_apart : List ℕ → Bool
goes_on_apart (b ∷ c ∷ bs) = not (is_mark b) || (eqb b 61 && eqb c 61)
goes_on_apart bs = true

begin_apart : (text : List ℕ) → is_punctuator text ≡ true → begins_apart text ≡ true
begin_apart text is = from_table begins_apart text refl is

go_on_apart : (text : List ℕ) → is_punctuator text ≡ true → goes_on_apart text ≡ true
go_on_apart text is = from_table goes_on_apart text refl is

punctuator_no_word : (b : ℕ) (bs : List ℕ) → is_punctuator (b ∷ bs) ≡ true → is_nondigit b ≡ false
punctuator_no_word b bs is = not-true _ (and_parts _ _ (and_parts _ _ (and_parts _ _ (begin_apart (b ∷ bs) is)).0).0).0

punctuator_no_digit : (b : ℕ) (bs : List ℕ) → is_punctuator (b ∷ bs) ≡ true → is_digit b ≡ false
punctuator_no_digit b bs is = not-true _ (and_parts _ _ (and_parts _ _ (and_parts _ _ (begin_apart (b ∷ bs) is)).0).0).1

two_equals : (b c : ℕ) (bs : List ℕ) → is_mark b ≡ true → is_punctuator (b ∷ c ∷ bs) ≡ true → (b ≡ 61) × (eqb c 61 ≡ true)
two_equals b c bs m is = elim (or_cases (not (is_mark b)) (eqb b 61 && eqb c 61) (go_on_apart (b ∷ c ∷ bs) is)) [
  | inl other ↦ absurd (both (is_mark b) m (not-true _ other))
  | inr two ↦ (let parts = and_parts (eqb b 61) (eqb c 61) two in (eqb-true b 61 parts.0, parts.1))
]

abbrev as_mark : ℕ → Bool
as_mark b = is_punctuator (b ∷ [])

at_byte : (b k : ℕ) → eqb b k ≡ true → as_mark k ≡ true → as_mark b ≡ true
at_byte b k e is = ap as_mark (eqb-true b k e) ∙ is

mark_is_punctuator : (b : ℕ) → is_mark b ≡ true → as_mark b ≡ true
mark_is_punctuator b m = elim (or_cases _ _ m) [
  | inr e ↦ at_byte b 61 e refl
  | inl m7 ↦ elim (or_cases _ _ m7) [
    | inr e ↦ at_byte b 59 e refl
    | inl m6 ↦ elim (or_cases _ _ m6) [
      | inr e ↦ at_byte b 125 e refl
      | inl m5 ↦ elim (or_cases _ _ m5) [
        | inr e ↦ at_byte b 123 e refl
        | inl m4 ↦ elim (or_cases _ _ m4) [
          | inr e ↦ at_byte b 41 e refl
          | inl m3 ↦ elim (or_cases _ _ m3) [
            | inr e ↦ at_byte b 40 e refl
            | inl m2 ↦ elim (or_cases _ _ m2) [ inr e ↦ at_byte b 93 e refl | inl e ↦ at_byte b 91 e refl ]
          ]
        ]
      ]
    ]
  ]
]

-- ---- a token is not empty, and begins with no blank

pub begins_dark : (b : ℕ) (bs : List ℕ) → IsToken (b ∷ bs) → (b ≢ 10) × (b ≢ 32)
begins_dark b bs (inl word) = (λ e. both (is_nondigit b) word.0 (ap is_nondigit e), λ e. both (is_nondigit b) word.0 (ap is_nondigit e))
begins_dark b bs (inr (inl number)) = elim number.0 [
  | inl d ↦ (λ e. both (is_digit b) d (ap is_digit e), λ e. both (is_digit b) d (ap is_digit e))
  | inr (is, digit) ↦ (λ e. absurd (omega arith), λ e. absurd (omega arith))
]
begins_dark b bs (inr (inr mark)) =
    let parts = and_parts (not (is_nondigit b) && not (is_digit b) && not (eqb b 10)) (not (eqb b 32)) (begin_apart (b ∷ bs) mark) in
    let no_newline = and_parts (not (is_nondigit b) && not (is_digit b)) (not (eqb b 10)) parts.0 in
    (λ e. both (eqb b 10) (eq-eqb b 10 e) (not-true _ no_newline.1), λ e. both (eqb b 32) (eq-eqb b 32 e) (not-true _ parts.1))

pub not_empty : IsToken [] → ⊥
not_empty (inl word) = word
not_empty (inr (inl number)) = number
not_empty (inr (inr mark)) = false≢true mark

-- ---- from the kinds to the longest token

digits_go_on : (last : ℕ) (bs : List ℕ) → AllAre is_digit bs → GoesOn last bs
digits_go_on last [] all = tt
digits_go_on last (b ∷ bs) all = (inl (digit_is_number b all.0), digits_go_on b bs all.1)

pub token_of : (k : Kind) (text : List ℕ) → IsOfKind k text → IsToken text
token_of k [] h = absurd h
token_of Word (b ∷ bs) h = inl h
token_of Digits (b ∷ bs) h = inr (inl (inl h.0, digits_go_on b bs h.1))
token_of Mark (b ∷ bs) h = inr (inr (subst (λ (more : List ℕ). is_punctuator (b ∷ more) ≡ true) (sym h.1) (mark_is_punctuator b h.0)))

-- more bytes of one kind than there are
beyond : (p : ℕ → Bool) (bs rest : List ℕ) (n : ℕ) → length bs < n → n ≤ length (bs ++ rest) → AllAre p (take n (bs ++ rest)) → Stops p rest → ⊥
beyond p [] [] n lt le all stop = absurd (omega arith)
beyond p [] (c ∷ rest) zero lt le all stop = absurd (omega arith)
beyond p [] (c ∷ rest) (suc n) lt le all stop = both (p c) all.0 stop
beyond p (b ∷ bs) rest zero lt le all stop = absurd (omega arith)
beyond p (b ∷ bs) rest (suc n) lt le all stop = beyond p bs rest n (omega arith) (omega arith) all.1 stop

beyond_digits : (last : ℕ) (bs rest : List ℕ) (n : ℕ) → is_digit last ≡ true → AllAre is_digit bs → length bs < n → n ≤ length (bs ++ rest) → GoesOn last (take n (bs ++ rest)) → Stops is_number_byte rest → ⊥
beyond_digits last [] [] n d all lt le goes stop = absurd (omega arith)
beyond_digits last [] (c ∷ rest) zero d all lt le goes stop = absurd (omega arith)
beyond_digits last [] (c ∷ rest) (suc n) d all lt le goes stop = elim goes.0 [
  | inl is ↦ both (is_number_byte c) is stop
  | inr (sign, exponent) ↦ both (is_exponent last) exponent (digit_no_exponent last d)
]
beyond_digits last (b ∷ bs) rest zero d all lt le goes stop = absurd (omega arith)
beyond_digits last (b ∷ bs) rest (suc n) d all lt le goes stop = beyond_digits b bs rest n all.0 all.1 (omega arith) (omega arith) goes.1 stop

beyond_mark : (b : ℕ) (rest : List ℕ) (n : ℕ) → is_mark b ≡ true → 0 < n → n ≤ length rest → is_punctuator (b ∷ take n rest) ≡ true → (b ≡ 61 → Stops (λ c. eqb c 61) rest) → ⊥
beyond_mark b rest zero m lt le is stop = absurd (omega arith)
beyond_mark b [] (suc n) m lt le is stop = absurd (omega arith)
beyond_mark b (c ∷ rest) (suc n) m lt le is stop = let two = two_equals b c (take n rest) m is in both (eqb c 61) two.1 (stop two.0)

-- no longer token begins where one of these does
none_longer : (k : Kind) (b : ℕ) (bs rest : List ℕ) (n : ℕ) → IsOfKind k (b ∷ bs) → IsClosed k (b ∷ bs) rest → length bs < n → n ≤ length (bs ++ rest) → IsToken (b ∷ take n (bs ++ rest)) → ⊥
none_longer Word b bs rest n h closed lt le (inl word) = beyond is_word_byte bs rest n lt le word.1 closed
none_longer Word b bs rest n h closed lt le (inr (inl number)) = elim number.0 [
  | inl d ↦ both (is_nondigit b) h.0 (digit_no_nondigit b d)
  | inr (is, digit) ↦ nondigit_no_period b h.0 is
]
none_longer Word b bs rest n h closed lt le (inr (inr mark)) = both (is_nondigit b) h.0 (punctuator_no_word b (take n (bs ++ rest)) mark)
none_longer Digits b bs rest n h closed lt le (inl word) = both (is_nondigit b) word.0 (digit_no_nondigit b h.0)
none_longer Digits b bs rest n h closed lt le (inr (inl number)) = beyond_digits b bs rest n h.0 h.1 lt le number.1 closed
none_longer Digits b bs rest n h closed lt le (inr (inr mark)) = both (is_digit b) h.0 (punctuator_no_digit b (take n (bs ++ rest)) mark)
none_longer Mark b bs rest n h closed lt le (inl word) = both (is_nondigit b) word.0 (mark_no_nondigit b h.0)
none_longer Mark b bs rest n h closed lt le (inr (inl number)) = elim number.0 [
  | inl d ↦ both (is_digit b) d (mark_no_digit b h.0)
  | inr (is, digit) ↦ mark_no_period b h.0 is
]
none_longer Mark b [] rest n h closed lt le (inr (inr mark)) = beyond_mark b rest n h.0 lt le mark (λ e. closed (ap (λ (c : ℕ). c ∷ []) e))
none_longer Mark b (c ∷ bs) rest n h closed lt le (inr (inr mark)) = absurd (let bad : c ∷ bs ≡ [] = h.1 in cc)

at_most : (m n : ℕ) → (m < n → ⊥) → n ≤ m
at_most m n h = elim (cases_lt m n) [ inl lt ↦ absurd (h lt) | inr le ↦ le ]

pub longest_of : (k : Kind) (text rest : List ℕ) → IsOfKind k text → IsClosed k text rest → IsLongest text rest
longest_of k [] rest h closed = absurd h
longest_of k (b ∷ bs) rest h closed = record { token = token_of k (b ∷ bs) h; longest = λ n le t. at_most (length (b ∷ bs)) n (λ lt. too_long n lt le t) } where
  too_long : (n : ℕ) → length (b ∷ bs) < n → n ≤ length ((b ∷ bs) ++ rest) → IsToken (take n ((b ∷ bs) ++ rest)) → ⊥
  too_long zero lt le t = absurd (omega arith)
  too_long (suc n) lt le t = none_longer k b bs rest n h closed (omega arith) (omega arith) t

-- ---- and back

goes_on_word : (bs : List ℕ) (c : ℕ) → AllAre is_word_byte bs → is_word_byte c ≡ true → AllAre is_word_byte (bs ++ c ∷ [])
goes_on_word [] c all e = (e, tt)
goes_on_word (b ∷ bs) c all e = (all.0, goes_on_word bs c all.1 e)

goes_on_digits : (last : ℕ) (bs : List ℕ) (c : ℕ) → AllAre is_digit bs → is_number_byte c ≡ true → GoesOn last (bs ++ c ∷ [])
goes_on_digits last [] c all e = (inl e, tt)
goes_on_digits last (b ∷ bs) c all e = (inl (digit_is_number b all.0), goes_on_digits b bs c all.1 e)

one_more : (text : List ℕ) (c : ℕ) (rest : List ℕ) → take (length text + 1) (text ++ c ∷ rest) ≡ text ++ c ∷ []
one_more text c rest =
    let regroup : text ++ c ∷ rest ≡ (text ++ c ∷ []) ++ rest = simp append_assoc in
    ap (take (length text + 1)) regroup ∙ take_at (text ++ c ∷ []) rest (length text + 1) (length-append text (c ∷ []))

-- a token that could go on by one byte is not the longest
not_longest : (text : List ℕ) (c : ℕ) (rest : List ℕ) → IsLongest text (c ∷ rest) → IsToken (text ++ c ∷ []) → ⊥
not_longest text c rest h t =
    let le : length text + 1 ≤ length text = h.longest (length text + 1) (omega (arith, length-append text (c ∷ rest))) (subst IsToken (sym (one_more text c rest)) t) in
    omega arith

stops_by : (p : ℕ → Bool) (rest : List ℕ) → ((c : ℕ) (more : List ℕ) → rest ≡ c ∷ more → p c ≡ true → ⊥) → Stops p rest
stops_by p [] h = tt
stops_by p (c ∷ rest) h = elim (cases_Bool (p c)) [ inl e ↦ absurd (h c rest refl e) | inr e ↦ e ]

pub closed_of : (k : Kind) (text rest : List ℕ) → IsOfKind k text → IsLongest text rest → IsClosed k text rest
closed_of k [] rest h l = absurd h
closed_of Word (b ∷ bs) rest h l = stops_by is_word_byte rest (λ c more e is. not_longest (b ∷ bs) c more (subst (IsLongest (b ∷ bs)) e l) (inl (h.0, goes_on_word bs c h.1 is)))
closed_of Digits (b ∷ bs) rest h l = stops_by is_number_byte rest (λ c more e is. not_longest (b ∷ bs) c more (subst (IsLongest (b ∷ bs)) e l) (inr (inl (inl h.0, goes_on_digits b bs c h.1 is))))
closed_of Mark (b ∷ bs) rest h l = λ equals. stops_by (λ c. eqb c 61) rest (λ c more e is.
    not_longest (b ∷ bs) c more (subst (IsLongest (b ∷ bs)) e l) (inr (inr (subst (λ (t : List ℕ). is_punctuator (t ++ c ∷ []) ≡ true) (sym equals) (subst (λ (d : ℕ). is_punctuator (61 ∷ d ∷ []) ≡ true) (sym (eqb-true c 61 is)) refl)))))

-- a token that begins with a letter is a word
pub word_of : (b : ℕ) (bs : List ℕ) → is_nondigit b ≡ true → IsToken (b ∷ bs) → IsOfKind Word (b ∷ bs)
word_of b bs w (inl word) = word
word_of b bs w (inr (inl number)) = elim number.0 [
  | inl d ↦ absurd (both (is_nondigit b) w (digit_no_nondigit b d))
  | inr (is, digit) ↦ absurd (nondigit_no_period b w is)
]
word_of b bs w (inr (inr mark)) = absurd (both (is_nondigit b) w (punctuator_no_word b bs mark))
