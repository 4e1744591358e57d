-- One token at a time: what is read is spelled so, and what is spelled so is read.
use Rattle.std.proofs.Common.{◌≡◌, ◌⊎◌, ℕ, zero, suc, ◌+◌, ◌<◌, ◌≤◌, ◌^◌, Bool, true, false, ◌&&◌, ◌||◌, not, eqb, List, [], ◌∷◌, length, get_or, drop, Option, Some, None, refl, sym, ap, ◌∙◌, subst, inl, inr, arith, zero-add}
use Rattle.std.specs.Prelude.{decimal}
use Rattle.std.specs.Str.{bytes_eq, all_ascii_digits}
use Rattle.std.specs.Str.Parse.{digits_value}
use Rattle.std.proofs.lemmas.Slice.Eq.{bytes_eq-Decides}
use Rattle.std.proofs.lemmas.Bool.{cases_Bool, and_parts, or_cases, not-true, not_from_false, ltb-true, lt-ltb, leb-true, le-leb, eqb-true, eq-eqb, ne_eqb, or_left, or_right}
use Rattle.std.proofs.lemmas.Str.Parse.{digits_value_short}
use Rattle.std.proofs.lemmas.Fmt.{decimal-digits_value, digits_decimal, digits_value-decimal, decimal_nonempty, length-decimal-le, first_decimal, decimal_digit}
use Rattle.first_form.specs.Pieces.{Piece}
use Rattle.c_lexer.specs.computed.Settings.{◌>>=◌}
use Rattle.first_form.specs.computed.Scan.{begins_with}
use Rattle.first_form.specs.Form.{begins_word, is_reserved, number_end, Spelled, IsName}
use Rattle.first_form.specs.computed.Reading.{is_number, number_of, word_at, name_at, number_at}
use Rattle.first_form.proofs.Digits.{own}

pub bind_some : {A B : Type 0} (o : Option A) (f : A → Option B) (y : B) → (o >>= f) ≡ Some y → (x : A) × (o ≡ Some x) × (f x ≡ Some y)
bind_some None f y e = absurd cc
bind_some (Some x) f y e = (x, refl, e)

-- the first token, and the rest
pub record Takes (ps : List Piece) (text : List ℕ) (rest : List Piece) : Type 0 where
  pub first : Piece
  pub parts : ps ≡ first ∷ rest
  pub text_is : first.text ≡ text

pub word_some : (w : List ℕ) (ps rest : List Piece) → word_at w ps ≡ Some rest → Takes ps w rest
word_some w [] rest e = absurd cc
word_some w (p ∷ ps) rest e = elim (cases_Bool (bytes_eq p.text w)) [
  | inl same ↦ (let is : ◌≡◌ {A = Option (List Piece)} (Some ps) (Some rest) = rw same at e in let is' : ps ≡ rest = cc in record { first = p; parts = ap (λ (q : List Piece). p ∷ q) is'; text_is = (bytes_eq-Decides p.text w).0 same })
  | inr other ↦ absurd (let bad : ◌≡◌ {A = Option (List Piece)} None (Some rest) = rw other at e in cc)
]

pub word_gives : (w : List ℕ) (p : Piece) (rest : List Piece) → p.text ≡ w → word_at w (p ∷ rest) ≡ Some rest
word_gives w p rest e = rw ((bytes_eq-Decides p.text w).1 e) refl

-- numbers
no_zero : (ds : List ℕ) → (not (begins_with 48 ds) ≡ true) ⊎ (eqb (length ds) 1 ≡ true) → get_or ds 0 0 ≡ 48 → length ds ≡ 1
no_zero ds (inr one) e = eqb-true _ _ one
no_zero [] (inl first) e = absurd (omega arith)
no_zero (b ∷ bs) (inl first) e = absurd (let no : eqb b 48 ≡ false = not-true _ first in let is : eqb b 48 ≡ true = eq-eqb b 48 e in let bad : true ≡ false = sym is ∙ no in cc)

number_some : (text : List ℕ) (n : ℕ) → number_of text ≡ Some n → (text ≡ decimal n) × (n < number_end)
number_some text n e = elim (cases_Bool (is_number text)) [
  | inl is ↦ (
      let value : ◌≡◌ {A = Option ℕ} (Some (digits_value 10 text)) (Some n) = rw is at e in
      let value_is : digits_value 10 text ≡ n = cc in
      let a = and_parts _ _ is in
      let b = and_parts _ _ a.0 in
      let c = and_parts _ _ b.0 in
      let digits : all_ascii_digits text ≡ true = c.0 in
      let some : 0 < length text = ltb-true _ _ c.1 in
      let short : length text ≤ 9 = leb-true _ _ b.1 in
      let small : digits_value 10 text < 10 ^ 9 = digits_value_short own text 9 digits short in
      let spelled : decimal (digits_value 10 text) ≡ text = decimal-digits_value own text digits some (no_zero text (or_cases _ _ a.1)) (omega arith) in
      (sym spelled ∙ ap decimal value_is, omega arith))
  | inr other ↦ absurd (let bad : ◌≡◌ {A = Option ℕ} None (Some n) = rw other at e in cc)
]

or_from_either : (x y : Bool) → (x ≡ true) ⊎ (y ≡ true) → (x || y) ≡ true
or_from_either x y (inl e) = or_left x y e
or_from_either x y (inr e) = or_right x y e

not_begins : (text : List ℕ) → (get_or text 0 0 ≡ 48 → ⊥) → not (begins_with 48 text) ≡ true
not_begins [] h = refl
not_begins (b ∷ bs) h = not_from_false _ (ne_eqb b 48 h)

lead_of : (text : List ℕ) (n : ℕ) → text ≡ decimal n → n < number_end → (not (begins_with 48 text) ≡ true) ⊎ (eqb (length text) 1 ≡ true)
lead_of text zero e small = inr (subst (λ (t : List ℕ). eqb (length t) 1 ≡ true) (sym (e ∙ decimal_digit 0 (omega arith))) refl)
lead_of text (suc n) e small = inl (not_begins text (λ h. absurd (omega (arith, subst (λ (t : List ℕ). 48 < get_or t 0 0) (sym e) (first_decimal (suc n) (omega arith) (omega arith))))))

pub number_gives : (text : List ℕ) (n : ℕ) → text ≡ decimal n → n < number_end → number_of text ≡ Some n
number_gives text n e small =
    let wide : n < 2 ^ 64 = omega arith in
    let digits : all_ascii_digits text ≡ true = subst (λ (t : List ℕ). all_ascii_digits t ≡ true) (sym e) (digits_decimal own n wide) in
    let value : digits_value 10 text ≡ n = ap (digits_value 10) e ∙ digits_value-decimal own n wide in
    let some : 0 < length text = subst (λ (t : List ℕ). 0 < length t) (sym e) (decimal_nonempty n wide) in
    let short : length text ≤ 9 = subst (λ (t : List ℕ). length t ≤ 9) (sym e) (length-decimal-le 9 n (omega arith) small wide) in
    let lead : (not (begins_with 48 text) ≡ true) ⊎ (eqb (length text) 1 ≡ true) = lead_of text n e small in
    rw (digits, lt-ltb _ _ some, le-leb _ _ short, or_from_either _ _ lead, value) refl

pub name_some : (ps rest : List Piece) (name : List ℕ) → name_at ps ≡ Some (name, rest) → Takes ps name rest × IsName name
name_some [] rest name e = absurd cc
name_some (p ∷ ps) rest name e = elim (cases_Bool (begins_word p.text && not (is_reserved p.text))) [
  | inl is ↦ (
      let got : ◌≡◌ {A = Option (List ℕ × List Piece)} (Some (p.text, ps)) (Some (name, rest)) = rw is at e in
      let pair : ◌≡◌ {A = List ℕ × List Piece} (p.text, ps) (name, rest) = cc in
      let text_is : p.text ≡ name = ap (λ (x : List ℕ × List Piece). x.0) pair in
      let rest_is : ps ≡ rest = ap (λ (x : List ℕ × List Piece). x.1) pair in
      let parts = and_parts _ _ is in
      (record { first = p; parts = ap (λ (q : List Piece). p ∷ q) rest_is; text_is = text_is }, subst IsName text_is (record { word = parts.0; free = not-true _ parts.1 })))
  | inr other ↦ absurd (let bad : ◌≡◌ {A = Option (List ℕ × List Piece)} None (Some (name, rest)) = rw other at e in cc)
]

pub name_gives : (p : Piece) (rest : List Piece) (name : List ℕ) → p.text ≡ name → IsName name → name_at (p ∷ rest) ≡ Some (name, rest)
name_gives p rest name e is =
    let word : begins_word p.text ≡ true = ap begins_word e ∙ is.word in
    let free : is_reserved p.text ≡ false = ap is_reserved e ∙ is.free in
    rw (word, free, e) refl

pub number_at_some : (ps rest : List Piece) (n : ℕ) → number_at ps ≡ Some (n, rest) → Takes ps (decimal n) rest × (n < number_end)
number_at_some [] rest n e = absurd cc
number_at_some (p ∷ ps) rest n e =
    let b = bind_some (number_of p.text) (λ m. Some (m, ps)) (n, rest) e in
    let pair : ◌≡◌ {A = ℕ × List Piece} (b.0, ps) (n, rest) = (let got : ◌≡◌ {A = Option (ℕ × List Piece)} (Some (b.0, ps)) (Some (n, rest)) = b.2 in cc) in
    let n-is : b.0 ≡ n = ap (λ (x : ℕ × List Piece). x.0) pair in
    let rest_is : ps ≡ rest = ap (λ (x : ℕ × List Piece). x.1) pair in
    let s = number_some p.text b.0 b.1 in
    (record { first = p; parts = ap (λ (q : List Piece). p ∷ q) rest_is; text_is = s.0 ∙ ap decimal n-is }, subst (λ (m : ℕ). m < number_end) n-is s.1)

pub number_at_gives : (p : Piece) (rest : List Piece) (n : ℕ) → p.text ≡ decimal n → n < number_end → number_at (p ∷ rest) ≡ Some (n, rest)
number_at_gives p rest n e small = rw (number_gives p.text n e small) refl

pub spelled_add : (t : List ℕ) (ts : List (List ℕ)) (ps mid rest : List Piece) → Takes ps t mid → Spelled ts mid rest → Spelled (t ∷ ts) ps rest
spelled_add t ts ps mid rest h s = subst (λ (q : List Piece). Spelled (t ∷ ts) q rest) (sym h.parts) (h.text_is, s)

pub word_adds : (t : List ℕ) (ts : List (List ℕ)) (ps mid rest : List Piece) → word_at t ps ≡ Some mid → Spelled ts mid rest → Spelled (t ∷ ts) ps rest
word_adds t ts ps mid rest e s = spelled_add t ts ps mid rest (word_some t ps mid e) s

-- the first token as the lists of texts say it
pub uncons : (t : List ℕ) (ts : List (List ℕ)) (ps rest : List Piece) → Spelled (t ∷ ts) ps rest → (p : Piece) × (mid : List Piece) × (ps ≡ p ∷ mid) × (p.text ≡ t) × Spelled ts mid rest
uncons t ts [] rest h = absurd h
uncons t ts (p ∷ ps) rest h = (p, ps, refl, h.0, h.1)

pub word_reads : (t : List ℕ) (ts : List (List ℕ)) (ps rest : List Piece) → Spelled (t ∷ ts) ps rest → (mid : List Piece) × (word_at t ps ≡ Some mid) × Spelled ts mid rest
word_reads t ts ps rest h = let u = uncons t ts ps rest h in (u.1, ap (word_at t) u.2 ∙ word_gives t u.0 u.1 u.3, u.4)

pub number_reads : (n : ℕ) (ts : List (List ℕ)) (ps rest : List Piece) → n < number_end → Spelled (decimal n ∷ ts) ps rest → (mid : List Piece) × (number_at ps ≡ Some (n, mid)) × Spelled ts mid rest
number_reads n ts ps rest small h = let u = uncons (decimal n) ts ps rest h in (u.1, ap number_at u.2 ∙ number_at_gives u.0 u.1 n u.3 small, u.4)

pub name_reads : (name : List ℕ) (ts : List (List ℕ)) (ps rest : List Piece) → IsName name → Spelled (name ∷ ts) ps rest → (mid : List Piece) × (name_at ps ≡ Some (name, mid)) × Spelled ts mid rest × (mid ≡ drop 1 ps)
name_reads name ts ps rest is h = let u = uncons name ts ps rest h in (u.1, ap name_at u.2 ∙ name_gives u.0 u.1 name u.3 is, u.4, sym (ap (drop 1) u.2))

pub spelled_len : (ts : List (List ℕ)) (ps rest : List Piece) → Spelled ts ps rest → length ps ≡ length ts + length rest
spelled_len [] ps rest h = ap length h ∙ sym (zero-add (length rest))
spelled_len (t ∷ ts) [] rest h = absurd h
spelled_len (t ∷ ts) (p ∷ ps) rest h = omega (arith, spelled_len ts ps rest h.1)
