-- The lexer finds the longest token of a place, and a token wherever one can begin.
use Rattle.std.proofs.Common.{◌≡◌, ◌≢◌, ◌⊎◌, ℕ, suc, ◌+◌, ◌<◌, ◌≤◌, Bool, true, false, not, ◌&&◌, ◌||◌, eqb, cond, [], ◌∷◌, ◌++◌, length, take, drop, Option, Some, None, refl, sym, ap, ◌∙◌, subst, inl, inr, arith, length-append, append_assoc}
use Rattle.std.specs.List.{prefix_len}
use Rattle.std.proofs.lemmas.List.{take_at, take-append-drop, append-nil, length-take-le}
use Rattle.std.proofs.lemmas.List.Sums.{prefix_len-le-length}
use Rattle.std.proofs.lemmas.Bool.{cases_Bool, and_parts, or_cases, or_left, or_right, and_right, and_from, eqb-true, eq-eqb, ne_eqb, not-true, cond_both, false≢true}
use Rattle.std.proofs.lemmas.Bool.Decides.{nat_tests}
use Rattle.c_syntax.specs.Marks.{Mark, marks}
use Rattle.c_lexer.specs.Bytes.{Text, is_digit, is_nondigit, is_word_byte, is_number_byte, is_sign, is_exponent, is_newline}
use Rattle.c_lexer.specs.Shapes.{mark_number, IsWord, GoesOn, BeginsWithDigit, IsNumber, Quotes, IsQuoted, IsMark, CanBe, IsLongest, NoToken}
use Rattle.c_lexer.specs.computed.Marks.{best, measured, mark_len}
use Rattle.c_lexer.specs.computed.Lengths.{goes_on, number_more, one_more, quoted_more, begins_with_digit, of_shape, of_mark, shape_at}
use Rattle.c_lexer.specs.declared.shape.Shape.{Shape}
use Rattle.c_lexer.specs.declared.shape.Shape.TheVariants as shapes
use Rattle.c_lexer.proofs.Runs.{run_reaches, run_all}
use Rattle.c_lexer.proofs.Punctuators.{Beats, best_beats, best_is, best_spelled, begins_cut, begins_apart, mark_begins, mark_period}

-- ---- bytes are of one kind
pub digit_no_nondigit : (b : ℕ) → is_digit b ≡ true → is_nondigit b ≡ false
digit_no_nondigit b e = grind (arith, nat_tests)

pub both : (x : Bool) → x ≡ true → x ≡ false → ⊥
both x t f = false≢true (sym f ∙ t)

-- ---- how far a number goes
goes_on_by : (last b : ℕ) → (is_number_byte b ≡ true) ⊎ ((is_sign b ≡ true) × (is_exponent last ≡ true)) → goes_on last b ≡ true
goes_on_by last b (inl e) = or_left _ _ e
goes_on_by last b (inr e) = or_right _ _ (and_from _ _ e.0 e.1)

goes_on_is : (last b : ℕ) → goes_on last b ≡ true → (is_number_byte b ≡ true) ⊎ ((is_sign b ≡ true) × (is_exponent last ≡ true))
goes_on_is last b e = elim (or_cases (is_number_byte b) (is_sign b && is_exponent last) e) [ inl h ↦ inl h | inr h ↦ inr (and_parts (is_sign b) (is_exponent last) h) ]

number_reaches : (last : ℕ) (xs ys : Text) → GoesOn last xs → length xs ≤ number_more last (xs ++ ys)
number_reaches last [] ys h = omega arith
number_reaches last (x ∷ xs) ys h = let more = number_reaches x xs ys h.1 in rw (goes_on_by last x h.0) (omega arith)

number_goes_on : (last : ℕ) (xs : Text) → GoesOn last (take (number_more last xs) xs)
number_goes_on last [] = tt
number_goes_on last (x ∷ xs) = by (goes_on last x) refl (number_goes_on x xs)
  where
    by : (t : Bool) → goes_on last x ≡ t → GoesOn x (take (number_more x xs) xs) → GoesOn last (take (cond t (1 + number_more x xs) 0) (x ∷ xs))
    by true e h = let s : 1 + number_more x xs ≡ suc (number_more x xs) = omega arith in rw s (goes_on_is last x e, h)
    by false e h = tt

pub number_more-le : (last : ℕ) (xs : Text) → number_more last xs ≤ length xs
number_more-le last [] = omega arith
number_more-le last (x ∷ xs) = let more = number_more-le x xs in cond_both (goes_on last x) (1 + number_more x xs) 0 (λ n. n ≤ length (x ∷ xs)) (λ e. omega arith) (λ e. omega arith)

-- ---- how far a literal goes
quoted_at : (q : ℕ) (body back : Text) → q ≢ 92 → q ≢ 10 → Quotes q body → quoted_more q false (body ++ q ∷ back) ≡ Some (length body + 1)
quoted_at q [] back no_escape no_line Quotes.none = rw (ne_eqb q 10 no_line, eq-eqb q q refl) refl
quoted_at q (b ∷ bs) back no_escape no_line (Quotes.plain no_quote no_backslash no_newline h) =
    let more = quoted_at q bs back no_escape no_line h in
    rw (ne_eqb b 10 no_newline, ne_eqb b q no_quote, ne_eqb b 92 no_backslash, more) (ap Some (omega arith))
quoted_at q (a ∷ b ∷ bs) back no_escape no_line (Quotes.escape no_newline h) =
    let more = quoted_at q bs back no_escape no_line h in
    rw (ne_eqb 92 q (λ e. no_escape (sym e)), ne_eqb b 10 no_newline, more) (ap Some (omega arith))

-- what is found between quotes
pub record IsBody (q : ℕ) (text : Text) (n : ℕ) : Type 0 where
  pub body : Text
  pub back : Text
  pub inside : Quotes q body
  pub cut : text ≡ body ++ q ∷ back
  pub len : n ≡ length body + 1

some_more : (o : Option ℕ) (n : ℕ) → one_more o ≡ Some n → (k : ℕ) × (o ≡ Some k) × (n ≡ k + 1)
some_more None n e = absurd cc
some_more (Some k) n e = (k, refl, cc)

-- behind a backslash or not
abbrev IsRead : ℕ → Bool → Text → ℕ → Type 0
IsRead q false text n = IsBody q text n
IsRead q true [] n = ⊥
IsRead q true (b ∷ bs) n = (b ≢ 10) × ((k : ℕ) × (n ≡ k + 1) × IsBody q bs k)

escape_of : (q b n k : ℕ) (bs : Text) → b ≡ 92 → n ≡ k + 1 → IsRead q true bs k → IsBody q (b ∷ bs) n
escape_of q b n k [] is len h = absurd h
escape_of q b n k (c ∷ cs) is len h =
    let inner = h.1.2 in
    let inner_len = inner.len in
    let outer = h.1.1 in
    record {
      body = 92 ∷ c ∷ inner.body;
      back = inner.back;
      inside = Quotes.escape h.0 inner.inside;
      cut = rw is (ap (λ (t : Text). 92 ∷ c ∷ t) inner.cut);
      len = omega (arith, len, inner_len, outer);
    }

plain_of : (q b n k : ℕ) (bs : Text) → b ≢ q → b ≢ 92 → b ≢ 10 → n ≡ k + 1 → IsBody q bs k → IsBody q (b ∷ bs) n
plain_of q b n k bs no_quote no_backslash no_newline len h =
    let inner_len = h.len in
    record {
      body = b ∷ h.body;
      back = h.back;
      inside = Quotes.plain no_quote no_backslash no_newline h.inside;
      cut = ap (λ (t : Text). b ∷ t) h.cut;
      len = omega (arith, len, inner_len);
    }

escaped_by : (q b n : ℕ) (bs : Text) (t : Bool) → is_newline b ≡ t → cond t None (one_more (quoted_more q false bs)) ≡ Some n → ((k : ℕ) → quoted_more q false bs ≡ Some k → IsBody q bs k) → IsRead q true (b ∷ bs) n
escaped_by q b n bs true l e more = absurd cc
escaped_by q b n bs false l e more =
    let m = some_more (quoted_more q false bs) n e in
    ((λ is. both (eqb b 10) (eq-eqb b 10 is) l), (m.0, m.2, more m.0 m.1))

plain_by : (q b n : ℕ) (bs : Text) (t u v : Bool) → is_newline b ≡ t → eqb b q ≡ u → eqb b 92 ≡ v → cond t None (cond u (Some 1) (one_more (quoted_more q v bs))) ≡ Some n
    → ((k : ℕ) → quoted_more q false bs ≡ Some k → IsBody q bs k) → ((k : ℕ) → quoted_more q true bs ≡ Some k → IsRead q true bs k) → IsBody q (b ∷ bs) n
plain_by q b n bs true u v l is w e more behind = absurd cc
plain_by q b n bs false true v l is w e more behind =
    record { body = []; back = bs; inside = Quotes.none; cut = ap (λ (x : ℕ). x ∷ bs) (eqb-true b q is); len = cc }
plain_by q b n bs false false true l is w e more behind =
    let m = some_more (quoted_more q true bs) n e in
    escape_of q b n m.0 bs (eqb-true b 92 w) m.2 (behind m.0 m.1)
plain_by q b n bs false false false l is w e more behind =
    let m = some_more (quoted_more q false bs) n e in
    plain_of q b n m.0 bs (λ same. both (eqb b q) (eq-eqb b q same) is) (λ same. both (eqb b 92) (eq-eqb b 92 same) w) (λ same. both (eqb b 10) (eq-eqb b 10 same) l) m.2 (more m.0 m.1)

quoted_is : (q : ℕ) (escaped : Bool) (text : Text) (n : ℕ) → quoted_more q escaped text ≡ Some n → IsRead q escaped text n
quoted_is q false [] n e = absurd cc
quoted_is q true [] n e = absurd cc
quoted_is q true (b ∷ bs) n e = escaped_by q b n bs (is_newline b) refl e (λ k f. quoted_is q false bs k f)
quoted_is q false (b ∷ bs) n e = plain_by q b n bs (is_newline b) (eqb b q) (eqb b 92) refl refl refl e (λ k f. quoted_is q false bs k f) (λ k f. quoted_is q true bs k f)

-- ---- what the lexer finds at a place
-- some shape, reaching as far as this front at least
pub record Reaches (text front : Text) : Type 0 where
  pub shape : Shape
  pub len : ℕ
  pub at : shape_at text ≡ Some (shape, len)
  pub reach : length front ≤ len

-- this shape and length
abbrev At : Text → Shape → ℕ → Type 0
At text shape n = shape_at text ≡ Some (shape, n)

word_at : (b : ℕ) (bs : Text) → is_nondigit b ≡ true → At (b ∷ bs) shapes.Word (1 + prefix_len is_word_byte bs)
unfolding shape_at
word_at b bs w = rw w refl

number_at : (b : ℕ) (bs : Text) → is_nondigit b ≡ false → (is_digit b || (eqb b 46 && begins_with_digit bs)) ≡ true → At (b ∷ bs) shapes.Number (1 + number_more b bs)
unfolding shape_at
number_at b bs w d = rw (w, d) refl

character_at : (bs : Text) (n : ℕ) → quoted_more 39 false bs ≡ Some n → At (39 ∷ bs) shapes.Character (n + 1)
unfolding shape_at
character_at bs n e = rw e refl

text_at : (bs : Text) (n : ℕ) → quoted_more 34 false bs ≡ Some n → At (34 ∷ bs) shapes.Text (n + 1)
unfolding shape_at
text_at bs n e = rw e refl

mark_at : (b : ℕ) (bs : Text) → begins_apart (b ∷ []) ≡ true → (eqb b 46 && begins_with_digit bs) ≡ false → shape_at (b ∷ bs) ≡ of_mark (measured (best marks (b ∷ bs)))
unfolding shape_at mark_len
mark_at b bs apart period =
    let p = and_parts (not (is_nondigit b)) (not (is_digit b) && (not (eqb b 39) && not (eqb b 34))) apart in
    let q = and_parts (not (is_digit b)) (not (eqb b 39) && not (eqb b 34)) p.1 in
    let r = and_parts (not (eqb b 39)) (not (eqb b 34)) q.1 in
    rw (not-true _ p.0, not-true _ q.0, period, not-true _ r.0, not-true _ r.1) refl

-- ---- each token's front is reached
word_reaches : (front back : Text) → IsWord front → Reaches (front ++ back) front
word_reaches [] back h = absurd h
word_reaches (b ∷ bs) back h =
    let far = run_reaches is_word_byte bs back h.1 in
    record { shape = shapes.Word; len = 1 + prefix_len is_word_byte (bs ++ back); at = word_at b (bs ++ back) h.0; reach = omega (arith, far) }

period_no_nondigit : (b : ℕ) → b ≡ 46 → is_nondigit b ≡ false
period_no_nondigit b e = ap is_nondigit e

begins_digit : (bs back : Text) → BeginsWithDigit bs → begins_with_digit (bs ++ back) ≡ true
begins_digit [] back h = absurd h
begins_digit (b ∷ bs) back h = h

number_reaches_front : (front back : Text) → IsNumber front → Reaches (front ++ back) front
number_reaches_front [] back h = absurd h
number_reaches_front (b ∷ bs) back h =
    let far = number_reaches b bs back h.1 in
    elim h.0 [
      | inl d ↦ record { shape = shapes.Number; len = 1 + number_more b (bs ++ back); at = number_at b (bs ++ back) (digit_no_nondigit b d) (or_left _ _ d); reach = omega (arith, far) }
      | inr (is, digit) ↦ record { shape = shapes.Number; len = 1 + number_more b (bs ++ back); at = number_at b (bs ++ back) (period_no_nondigit b is) (or_right _ _ (and_from _ _ (eq-eqb b 46 is) (begins_digit bs back digit))); reach = omega (arith, far) }
    ]

quoted_cut : (q : ℕ) (front back body : Text) → front ≡ q ∷ (body ++ q ∷ []) → front ++ back ≡ q ∷ (body ++ q ∷ back)
quoted_cut q front back body e = ap (λ (t : Text). t ++ back) e ∙ ap (λ (t : Text). q ∷ t) (append_assoc body (q ∷ []) back)

quoted_len : (q : ℕ) (front body : Text) → front ≡ q ∷ (body ++ q ∷ []) → length front ≡ length body + 1 + 1
quoted_len q front body e =
    let len : length (q ∷ (body ++ q ∷ [])) ≡ length body + 1 + 1 = simp length-append (omega arith) in
    ap length e ∙ len

character_reaches : (front back : Text) → IsQuoted 39 front → Reaches (front ++ back) front
character_reaches front back h =
    let at = character_at (h.body ++ 39 ∷ back) (length h.body + 1) (quoted_at 39 h.body back (λ e. absurd (omega arith)) (λ e. absurd (omega arith)) h.inside) in
    let len = quoted_len 39 front h.body h.cut in
    record { shape = shapes.Character; len = length h.body + 1 + 1; at = ap shape_at (quoted_cut 39 front back h.body h.cut) ∙ at; reach = omega (arith, len) }

text_reaches : (front back : Text) → IsQuoted 34 front → Reaches (front ++ back) front
text_reaches front back h =
    let at = text_at (h.body ++ 34 ∷ back) (length h.body + 1) (quoted_at 34 h.body back (λ e. absurd (omega arith)) (λ e. absurd (omega arith)) h.inside) in
    let len = quoted_len 34 front h.body h.cut in
    record { shape = shapes.Text; len = length h.body + 1 + 1; at = ap shape_at (quoted_cut 34 front back h.body h.cut) ∙ at; reach = omega (arith, len) }

-- a mark of one byte, where a digit follows a period
period_alone : (b number : ℕ) (bs back : Text) → IsMark number (b ∷ bs) → (eqb b 46 && begins_with_digit (bs ++ back)) ≡ true → bs ≡ []
period_alone b number [] back is e = refl
period_alone b number (c ∷ cs) back is e = absurd (both (eqb b 46 && is_digit c) e (not-true _ (mark_period (b ∷ c ∷ cs) number is)))

first_apart : (b number : ℕ) (bs : Text) → IsMark number (b ∷ bs) → begins_apart (b ∷ []) ≡ true
first_apart b number bs is = mark_begins (b ∷ bs) number is

best_reaches : (text front : Text) (o : Option Mark) → shape_at text ≡ of_mark (measured o) → Beats o (length front) → Reaches text front
best_reaches text front None at h = absurd h
best_reaches text front (Some m) at h = record { shape = shapes.Mark m.number; len = length m.text; at = at; reach = h }

mark_reaches : (number : ℕ) (front back : Text) → IsMark number front → Reaches (front ++ back) front
mark_reaches number [] back is = absurd (false≢true (mark_begins [] number is))
mark_reaches number (b ∷ bs) back is =
    let apart = first_apart b number bs is in
    let no_nondigit = not-true _ (and_parts (not (is_nondigit b)) (not (is_digit b) && (not (eqb b 39) && not (eqb b 34))) apart).0 in
    elim (cases_Bool (eqb b 46 && begins_with_digit (bs ++ back))) [
      | inl e ↦ (
          let alone = period_alone b number bs back is e in
          let len : length (b ∷ bs) ≡ 1 = ap (λ (t : Text). length (b ∷ t)) alone in
          record { shape = shapes.Number; len = 1 + number_more b (bs ++ back); at = number_at b (bs ++ back) no_nondigit (or_right _ _ e); reach = omega (arith, len) })
      | inr e ↦ best_reaches (b ∷ (bs ++ back)) (b ∷ bs) (best marks (b ∷ (bs ++ back))) (mark_at b (bs ++ back) apart e) (best_beats marks (b ∷ bs) back number is)
    ]

pub reaches : (shape : Shape) (front back : Text) → CanBe shape front → Reaches (front ++ back) front
reaches shapes.Word front back h = word_reaches front back h
reaches shapes.Number front back h = number_reaches_front front back h
reaches shapes.Character front back h = character_reaches front back h
reaches shapes.Text front back h = text_reaches front back h
reaches (shapes.Mark number) front back h = mark_reaches number front back h

-- ---- what is found is a token
pub record Found (text : Text) (shape : Shape) (n : ℕ) : Type 0 where
  pub some : 0 < n
  pub within : n ≤ length text
  pub can : CanBe shape (take n text)

found_word : (b : ℕ) (bs : Text) → is_nondigit b ≡ true → Found (b ∷ bs) shapes.Word (1 + prefix_len is_word_byte bs)
found_word b bs w =
    let le = prefix_len-le-length is_word_byte bs in
    let s : 1 + prefix_len is_word_byte bs ≡ suc (prefix_len is_word_byte bs) = omega arith in
    record { some = omega arith; within = omega (arith, le); can = rw s (w, run_all is_word_byte bs) }

number_begins : (b : ℕ) (bs : Text) → (is_digit b || (eqb b 46 && begins_with_digit bs)) ≡ true → (is_digit b ≡ true) ⊎ ((b ≡ 46) × BeginsWithDigit (take (number_more b bs) bs))
number_begins b bs e = elim (or_cases (is_digit b) (eqb b 46 && begins_with_digit bs) e) [
  | inl d ↦ inl d
  | inr p ↦ (let parts = and_parts (eqb b 46) (begins_with_digit bs) p in inr (eqb-true b 46 parts.0, taken bs parts.1))
]
  where
    digit_goes_on : (c : ℕ) → is_digit c ≡ true → goes_on b c ≡ true
    digit_goes_on c d = or_left _ _ (or_left _ _ (or_right _ _ d))

    taken : (cs : Text) → begins_with_digit cs ≡ true → BeginsWithDigit (take (number_more b cs) cs)
    taken [] h = absurd (false≢true h)
    taken (c ∷ cs) h = let s : 1 + number_more c cs ≡ suc (number_more c cs) = omega arith in rw (digit_goes_on c h, s) h

found_number : (b : ℕ) (bs : Text) → (is_digit b || (eqb b 46 && begins_with_digit bs)) ≡ true → Found (b ∷ bs) shapes.Number (1 + number_more b bs)
found_number b bs d =
    let le = number_more-le b bs in
    let s : 1 + number_more b bs ≡ suc (number_more b bs) = omega arith in
    record { some = omega arith; within = omega (arith, le); can = rw s (number_begins b bs d, number_goes_on b bs) }

take_quoted : (q : ℕ) (body back : Text) → take (length body + 1 + 1) (q ∷ (body ++ q ∷ back)) ≡ q ∷ (body ++ q ∷ [])
take_quoted q body back =
    let len : length (q ∷ (body ++ q ∷ [])) ≡ length body + 1 + 1 = simp length-append (omega arith) in
    let parts : q ∷ (body ++ q ∷ back) ≡ (q ∷ (body ++ q ∷ [])) ++ back = ap (λ (t : Text). q ∷ t) (sym (append_assoc body (q ∷ []) back)) in
    ap (λ (t : Text). take (length body + 1 + 1) t) parts ∙ ap (λ (n : ℕ). take n ((q ∷ (body ++ q ∷ [])) ++ back)) (sym len) ∙ take_at (q ∷ (body ++ q ∷ [])) back _ refl

found_quoted : (q : ℕ) (bs : Text) (n : ℕ) → quoted_more q false bs ≡ Some n → (0 < n + 1) × (n + 1 ≤ length (q ∷ bs)) × IsQuoted q (take (n + 1) (q ∷ bs))
found_quoted q bs n e =
    let h = quoted_is q false bs n e in
    let h_len = h.len in
    let whole : length bs ≡ length h.body + suc (length h.back) = ap length h.cut ∙ length-append h.body (q ∷ h.back) in
    let front : take (n + 1) (q ∷ bs) ≡ q ∷ (h.body ++ q ∷ []) = ap (λ (t : Text). take (n + 1) (q ∷ t)) h.cut ∙ ap (λ (k : ℕ). take (k + 1) (q ∷ (h.body ++ q ∷ h.back))) h.len ∙ take_quoted q h.body h.back in
    (omega arith, omega (arith, whole, h_len), record { body = h.body; cut = front; inside = h.inside })

found_mark : (text : Text) (m : Mark) → best marks text ≡ Some m → Found text (shapes.Mark m.number) (length m.text)
found_mark text m e =
    let is = best_spelled text m e in
    let begin = (best_is (λ k. true) text m refl e).begins_with in
    let cut = begins_cut m.text text begin in
    let len : length text ≡ length m.text + length (drop (length m.text) text) = ap length cut ∙ length-append m.text (drop (length m.text) text) in
    let front : take (length m.text) text ≡ m.text = ap (λ (t : Text). take (length m.text) t) cut ∙ take_at m.text (drop (length m.text) text) _ refl in
    record { some = mark_some m.text is; within = omega (arith, len); can = subst (λ (t : Text). IsMark m.number t) (sym front) is }
  where
    mark_some : (t : Text) → IsMark m.number t → 0 < length t
    mark_some [] h = absurd (false≢true (mark_begins [] m.number h))
    mark_some (b ∷ bs) h = omega arith

pair_of : (s shape : Shape) (k n : ℕ) → ◌≡◌ {A = Option (Shape × ℕ)} (Some (s, k)) (Some (shape, n)) → (s ≡ shape) × (k ≡ n)
pair_of s shape k n e =
    let pair : (s, k) ≡ (shape, n) = cc in
    (ap (λ (p : Shape × ℕ). p.0) pair, ap (λ (p : Shape × ℕ). p.1) pair)

found_as : (text : Text) (s shape : Shape) (k n : ℕ) → ◌≡◌ {A = Option (Shape × ℕ)} (Some (s, k)) (Some (shape, n)) → Found text s k → Found text shape n
found_as text s shape k n e h =
    let p = pair_of s shape k n e in
    subst (λ (x : Shape). Found text x n) p.0 (subst (λ (m : ℕ). Found text s m) p.1 h)

found_literal : (q : ℕ) (s shape : Shape) (bs : Text) (n : ℕ) → ((t : Text) → IsQuoted q t → CanBe s t) → of_shape s (one_more (quoted_more q false bs)) ≡ Some (shape, n) → Found (q ∷ bs) shape n
found_literal q s shape bs n can e = by (quoted_more q false bs) refl e
  where
    by : (o : Option ℕ) → quoted_more q false bs ≡ o → of_shape s (one_more o) ≡ Some (shape, n) → Found (q ∷ bs) shape n
    by None is e = absurd cc
    by (Some k) is e = let h = found_quoted q bs k is in found_as (q ∷ bs) s shape (k + 1) n e (record { some = h.0; within = h.1; can = can _ h.2 })

found_in_table : (text : Text) (shape : Shape) (n : ℕ) → of_mark (measured (best marks text)) ≡ Some (shape, n) → Found text shape n
found_in_table text shape n e = by (best marks text) refl e
  where
    by : (o : Option Mark) → best marks text ≡ o → of_mark (measured o) ≡ Some (shape, n) → Found text shape n
    by None is e = absurd cc
    by (Some m) is e = found_as text (shapes.Mark m.number) shape (length m.text) n e (found_mark text m is)

found_by : (b : ℕ) (bs : Text) (shape : Shape) (n : ℕ) (t u v w : Bool) → is_nondigit b ≡ t → (is_digit b || (eqb b 46 && begins_with_digit bs)) ≡ u → eqb b 39 ≡ v → eqb b 34 ≡ w
    → cond t (Some (shapes.Word, 1 + prefix_len is_word_byte bs)) (cond u (Some (shapes.Number, 1 + number_more b bs)) (cond v (of_shape shapes.Character (one_more (quoted_more 39 false bs)))
    (cond w (of_shape shapes.Text (one_more (quoted_more 34 false bs))) (of_mark (measured (best marks (b ∷ bs))))))) ≡ Some (shape, n)
    → Found (b ∷ bs) shape n
found_by b bs shape n true u v w a c d f e = found_as (b ∷ bs) shapes.Word shape _ n e (found_word b bs a)
found_by b bs shape n false true v w a c d f e = found_as (b ∷ bs) shapes.Number shape _ n e (found_number b bs c)
found_by b bs shape n false false true w a c d f e =
    subst (λ (x : ℕ). Found (x ∷ bs) shape n) (sym (eqb-true b 39 d)) (found_literal 39 shapes.Character shape bs n (λ t h. h) e)
found_by b bs shape n false false false true a c d f e =
    subst (λ (x : ℕ). Found (x ∷ bs) shape n) (sym (eqb-true b 34 f)) (found_literal 34 shapes.Text shape bs n (λ t h. h) e)
found_by b bs shape n false false false false a c d f e = found_in_table (b ∷ bs) shape n e

pub found : (text : Text) (shape : Shape) (n : ℕ) → shape_at text ≡ Some (shape, n) → Found text shape n
unfolding shape_at mark_len
found [] shape n e = absurd cc
found (b ∷ bs) shape n e = found_by b bs shape n _ _ _ _ refl refl refl refl e

-- ---- the longest, and none
same_found : (text : Text) (s shape : Shape) (k n : ℕ) → shape_at text ≡ Some (s, k) → shape_at text ≡ Some (shape, n) → (s ≡ shape) × (k ≡ n)
same_found text s shape k n e f = pair_of s shape k n (sym e ∙ f)

pub longest_of : (text : Text) (shape : Shape) (n : ℕ) → shape_at text ≡ Some (shape, n) → IsLongest shape (take n text) (drop n text) text
longest_of text shape n e =
    let f = found text shape n e in
    let len = length-take-le n text f.within in
    record {
      cut = sym (take-append-drop n text);
      can = f.can;
      longest = λ other front back cut can.
          let r = reaches other front back can in
          let same = same_found text r.shape shape r.len n (ap shape_at cut ∙ r.at) e in
          let reach = r.reach in
          omega (arith, reach, same.1, len);
    }

pub none_of : (text : Text) → shape_at text ≡ None → NoToken text
none_of text e = λ shape front back cut can. (let r = reaches shape front back can in let bad : ◌≡◌ {A = Option (Shape × ℕ)} None (Some (r.shape, r.len)) = sym e ∙ (ap shape_at cut ∙ r.at) in cc)

pub none_at : (text : Text) → NoToken text → shape_at text ≡ None
none_at text nothing = by (shape_at text) refl
  where
    by : (o : Option (Shape × ℕ)) → shape_at text ≡ o → shape_at text ≡ None
    by None e = e
    by (Some p) e = absurd (nothing p.0 (take p.1 text) (drop p.1 text) (sym (take-append-drop p.1 text)) (found text p.0 p.1 e).can)

-- ---- a token has one shape
empty : (t : Text) → length t ≡ 0 → t ≡ []
empty [] e = refl
empty (b ∷ bs) e = absurd (omega arith)

some_same : (a b : ℕ) → ◌≡◌ {A = Option ℕ} (Some a) (Some b) → a ≡ b
some_same a b e = cc

mark_shape : (number : ℕ) (w : Text) → IsMark number w → (n : ℕ) × (shape_at w ≡ Some (shapes.Mark number, n))
mark_shape number [] is = absurd (false≢true (mark_begins [] number is))
mark_shape number (b ∷ bs) is = by (best marks (b ∷ bs)) refl beats
  where
    no_period : (cs : Text) → IsMark number (b ∷ cs) → (eqb b 46 && begins_with_digit cs) ≡ false
    no_period [] h = and_right _ _ refl
    no_period (c ∷ cs) h = not-true _ (mark_period (b ∷ c ∷ cs) number h)

    beats : Beats (best marks (b ∷ bs)) (length (b ∷ bs))
    beats = subst (λ (t : Text). Beats (best marks t) (length (b ∷ bs))) (append-nil (b ∷ bs)) (best_beats marks (b ∷ bs) [] number is)

    by : (o : Option Mark) → best marks (b ∷ bs) ≡ o → Beats o (length (b ∷ bs)) → (n : ℕ) × (shape_at (b ∷ bs) ≡ Some (shapes.Mark number, n))
    by None e h = absurd h
    by (Some m) e h =
        let f = found_mark (b ∷ bs) m e in
        let cut = begins_cut m.text (b ∷ bs) (best_is (λ k. true) (b ∷ bs) m refl e).begins_with in
        let len : length (b ∷ bs) ≡ length m.text + length (drop (length m.text) (b ∷ bs)) = ap length cut ∙ length-append m.text (drop (length m.text) (b ∷ bs)) in
        let none : length (drop (length m.text) (b ∷ bs)) ≡ 0 = omega (arith, len, h) in
        let same : b ∷ bs ≡ m.text = cut ∙ ap (λ (t : Text). m.text ++ t) (empty _ none) ∙ append-nil m.text in
        let number_is : m.number ≡ number = some_same m.number number (sym (best_spelled (b ∷ bs) m e) ∙ (ap (λ (t : Text). mark_number marks t) (sym same) ∙ is)) in
        (length m.text, mark_at b bs (first_apart b number bs is) (no_period bs is) ∙ (ap (λ (o : Option Mark). of_mark (measured o)) e ∙ ap (λ (k : ℕ). Some (shapes.Mark k, length m.text)) number_is))

word_shape : (w : Text) → IsWord w → (n : ℕ) × (shape_at w ≡ Some (shapes.Word, n))
word_shape [] h = absurd h
word_shape (b ∷ bs) h = (_, word_at b bs h.0)

number_shape : (w : Text) → IsNumber w → (n : ℕ) × (shape_at w ≡ Some (shapes.Number, n))
number_shape [] h = absurd h
number_shape (b ∷ bs) h = elim h.0 [
  | inl d ↦ (_, number_at b bs (digit_no_nondigit b d) (or_left _ _ d))
  | inr (is, digit) ↦ (_, number_at b bs (period_no_nondigit b is) (or_right _ _ (and_from _ _ (eq-eqb b 46 is) (begins bs digit))))
]
  where
    begins : (cs : Text) → BeginsWithDigit cs → begins_with_digit cs ≡ true
    begins [] k = absurd k
    begins (c ∷ cs) k = k

shape_is : (shape : Shape) (w : Text) → CanBe shape w → (n : ℕ) × (shape_at w ≡ Some (shape, n))
shape_is shapes.Word w h = word_shape w h
shape_is shapes.Number w h = number_shape w h
shape_is shapes.Character w h = (_, ap shape_at h.cut ∙ character_at (h.body ++ 39 ∷ []) (length h.body + 1) (quoted_at 39 h.body [] (λ e. absurd (omega arith)) (λ e. absurd (omega arith)) h.inside))
shape_is shapes.Text w h = (_, ap shape_at h.cut ∙ text_at (h.body ++ 34 ∷ []) (length h.body + 1) (quoted_at 34 h.body [] (λ e. absurd (omega arith)) (λ e. absurd (omega arith)) h.inside))
shape_is (shapes.Mark number) w h = mark_shape number w h

-- the longest token of a place is the one that the lexer finds
pub at_longest : (shape : Shape) (word rest text : Text) → IsLongest shape word rest text → shape_at text ≡ Some (shape, length word)
at_longest shape word rest text h =
    let r = reaches shape word rest h.can in
    let at : shape_at text ≡ Some (r.shape, r.len) = ap shape_at h.cut ∙ r.at in
    let f = found text r.shape r.len at in
    let front_len = length-take-le r.len text f.within in
    let within = h.longest r.shape (take r.len text) (drop r.len text) (sym (take-append-drop r.len text)) f.can in
    let reach = r.reach in
    let len : r.len ≡ length word = omega (arith, front_len, within, reach) in
    let front : take r.len text ≡ word = ap (λ (n : ℕ). take n text) len ∙ (ap (λ (t : Text). take (length word) t) h.cut ∙ take_at word rest _ refl) in
    let mine = shape_is shape word h.can in
    let its = shape_is r.shape word (subst (λ (t : Text). CanBe r.shape t) front f.can) in
    let same = (same_found word r.shape shape _ _ its.1 mine.1).0 in
    at ∙ (ap (λ (s : Shape). Some (s, r.len)) same ∙ ap (λ (n : ℕ). Some (shape, n)) len)
