-- Constants as the lexer reads them are those of the definition.
use Rattle.std.proofs.Common.{◌≡◌, ◌⊎◌, ℕ, suc, ◌+◌, Bool, true, false, ◌||◌, eqb, cond, [], ◌∷◌, ◌++◌, length, take, drop, Option, Some, None, refl, sym, ap, ◌∙◌, subst, inl, inr, arith}
use Rattle.std.specs.List.{prefix_len}
use Rattle.std.specs.Str.Parse.{digits_value}
use Rattle.std.proofs.lemmas.List.{take_at, drop_at, take-append-drop}
use Rattle.std.proofs.lemmas.Bool.{cases_Bool, or_cases, or_parts, or_left, or_right, eqb-true, eq-eqb, ne_eqb, false≢true}
use Rattle.std.proofs.lemmas.Bool.Decides.{nat_tests}
use Rattle.c_values.specs.declared.int_type.IntType.{IntType}
use Rattle.c_lexer.specs.Bytes.{Text, AllAre, Stops, is_digit, is_octal, is_hexadecimal}
use Rattle.c_lexer.specs.Constants.{is_u, is_l, is_x, suffix_of, Spells, candidates, first_holding, IsConstant}
use Rattle.c_lexer.specs.computed.Values.{typed, typed_by, constant_in, hexadecimal_in, constant}
use Rattle.c_lexer.specs.declared.constant.Suffix.{Suffix}
use Rattle.c_lexer.proofs.Runs.{run_len, run_all}

-- ---- no suffix begins as digits go on
letter_no_digit : (a : ℕ) → (is_u a || is_l a) ≡ true → is_hexadecimal a ≡ false
letter_no_digit a h = grind (arith, nat_tests)

no_letter : (a : ℕ) (bs : Text) (s : Suffix) → (is_u a || is_l a) ≡ false → suffix_of (a ∷ bs) ≡ Some s → ⊥
unfolding suffix_of
no_letter a [] s h e = let p = or_parts (is_u a) (is_l a) h in let bad : ◌≡◌ {A = Option Suffix} None (Some s) = rw (p.0, p.1) at e in cc
no_letter a (b ∷ []) s h e = let p = or_parts (is_u a) (is_l a) h in let bad : ◌≡◌ {A = Option Suffix} None (Some s) = rw (p.0, p.1) at e in cc
no_letter a (b ∷ c ∷ []) s h e = let p = or_parts (is_u a) (is_l a) h in let bad : ◌≡◌ {A = Option Suffix} None (Some s) = rw (p.0, p.1) at e in cc
no_letter a (b ∷ c ∷ d ∷ more) s h e = cc

suffix_stops : (behind : Text) (s : Suffix) → suffix_of behind ≡ Some s → Stops is_hexadecimal behind
suffix_stops [] s e = tt
suffix_stops (a ∷ bs) s e = elim (cases_Bool (is_u a || is_l a)) [ inl h ↦ letter_no_digit a h | inr h ↦ absurd (no_letter a bs s h e) ]

stops_digit : (behind : Text) → Stops is_hexadecimal behind → Stops is_digit behind
stops_digit [] h = tt
stops_digit (b ∷ bs) h = (or_parts _ _ (or_parts _ _ h).0).0

octal_is_digit : (b : ℕ) → is_digit b ≡ false → is_octal b ≡ false
octal_is_digit b e = grind (arith, nat_tests)

stops_octal : (behind : Text) → Stops is_digit behind → Stops is_octal behind
stops_octal [] h = tt
stops_octal (b ∷ bs) h = octal_is_digit b h

-- ---- the value and the type
pub record IsTyped (base value : ℕ) (o : Option Suffix) (v : ℕ) (k : IntType) : Type 0 where
  pub suffix : Suffix
  pub is : o ≡ Some suffix
  pub same : v ≡ value
  pub holds : first_holding v (candidates base suffix) ≡ Some k

typed_is : (base value : ℕ) (o : Option Suffix) (v : ℕ) (k : IntType) → typed_by base value o ≡ Some (v, k) → IsTyped base value o v k
typed_is base value None v k e = absurd cc
typed_is base value (Some s) v k e = by (first_holding value (candidates base s)) refl e
  where
    by : (t : Option IntType) → first_holding value (candidates base s) ≡ t → typed value t ≡ Some (v, k) → IsTyped base value (Some s) v k
    by None is e = absurd cc
    by (Some t) is e =
        let pair : (value, t) ≡ (v, k) = cc in
        let same : value ≡ v = ap (λ (p : ℕ × IntType). p.0) pair in
        let kind : t ≡ k = ap (λ (p : ℕ × IntType). p.1) pair in
        record { suffix = s; is = refl; same = sym same; holds = subst (λ (n : ℕ). first_holding n (candidates base s) ≡ Some k) same (is ∙ ap Some kind) }

constant_of : (whole : Text) (base n : ℕ) (text : Text) (v : ℕ) (k : IntType) → constant_in base n text ≡ Some (v, k) → Spells whole base (take n text) (drop n text) → IsConstant whole v k
constant_of whole base n text v k e spells =
    let t = typed_is base (digits_value base (take n text)) (suffix_of (drop n text)) v k e in
    record { base = base; digits = take n text; behind = drop n text; suffix = t.suffix; spells = spells; ends = t.is; value_is = t.same; kind_is = t.holds }

constant_at : (base : ℕ) (digits behind : Text) (s : Suffix) (v : ℕ) (k : IntType) → suffix_of behind ≡ Some s → v ≡ digits_value base digits → first_holding v (candidates base s) ≡ Some k
    → constant_in base (length digits) (digits ++ behind) ≡ Some (v, k)
constant_at base digits behind s v k ends value holds =
    rw (take_at digits behind _ refl, drop_at digits behind _ refl, ends, sym value, holds) refl

-- ---- by the first bytes
at_zero : constant (48 ∷ []) ≡ constant_in 8 (prefix_len is_octal (48 ∷ [])) (48 ∷ [])
unfolding constant
at_zero = refl

at_x : (c : ℕ) (cs : Text) → is_x c ≡ true → constant (48 ∷ c ∷ cs) ≡ hexadecimal_in cs
unfolding constant
at_x c cs e = rw e refl

at_octal : (c : ℕ) (cs : Text) → is_x c ≡ false → constant (48 ∷ c ∷ cs) ≡ constant_in 8 (prefix_len is_octal (48 ∷ c ∷ cs)) (48 ∷ c ∷ cs)
unfolding constant
at_octal c cs e = rw e refl

at_decimal : (b : ℕ) (bs : Text) → eqb b 48 ≡ false → is_digit b ≡ true → constant (b ∷ bs) ≡ constant_in 10 (prefix_len is_digit (b ∷ bs)) (b ∷ bs)
unfolding constant
at_decimal b bs z d = rw (z, d) refl

at_none : (b : ℕ) (bs : Text) → eqb b 48 ≡ false → is_digit b ≡ false → constant (b ∷ bs) ≡ None
unfolding constant
at_none b bs z d = rw (z, d) refl

empty_none : constant [] ≡ None
unfolding constant
empty_none = refl

-- ---- what is read is a constant
octal_spells : (cs : Text) → Spells (48 ∷ cs) 8 (take (prefix_len is_octal (48 ∷ cs)) (48 ∷ cs)) (drop (prefix_len is_octal (48 ∷ cs)) (48 ∷ cs))
octal_spells cs =
    let k = prefix_len is_octal cs in
    let s : 1 + k ≡ suc k = omega arith in
    rw s (subst (λ (t : Text). Spells (48 ∷ t) 8 (48 ∷ take k cs) (drop k cs)) (take-append-drop k cs) (Spells.octal (take k cs) (drop k cs) (run_all is_octal cs)))

decimal_spells : (b : ℕ) (bs : Text) → eqb b 48 ≡ false → is_digit b ≡ true → Spells (b ∷ bs) 10 (take (prefix_len is_digit (b ∷ bs)) (b ∷ bs)) (drop (prefix_len is_digit (b ∷ bs)) (b ∷ bs))
decimal_spells b bs z d =
    let k = prefix_len is_digit bs in
    let s : 1 + k ≡ suc k = omega arith in
    rw (d, s) (subst (λ (t : Text). Spells (b ∷ t) 10 (b ∷ take k bs) (drop k bs)) (take-append-drop k bs) (Spells.decimal (take k bs) (drop k bs) d (λ is. false≢true (sym z ∙ eq-eqb b 48 is)) (run_all is_digit bs)))

hexadecimal_spells : (x : ℕ) (cs : Text) (n : ℕ) → is_x x ≡ true → prefix_len is_hexadecimal cs ≡ n → eqb n 0 ≡ false → Spells (48 ∷ x ∷ cs) 16 (take n cs) (drop n cs)
hexadecimal_spells x [] n is len some = absurd (let e : eqb n 0 ≡ true = eq-eqb n 0 (sym len) in cc)
hexadecimal_spells x (d ∷ ds) n is len some = by (is_hexadecimal d) refl
  where
    first : (x ≡ 120) ⊎ (x ≡ 88)
    first = elim (or_cases (eqb x 120) (eqb x 88) is) [ inl e ↦ inl (eqb-true x 120 e) | inr e ↦ inr (eqb-true x 88 e) ]

    by : (t : Bool) → is_hexadecimal d ≡ t → Spells (48 ∷ x ∷ d ∷ ds) 16 (take n (d ∷ ds)) (drop n (d ∷ ds))
    by false e = absurd (let zero_len : prefix_len is_hexadecimal (d ∷ ds) ≡ 0 = rw e refl in let q : eqb n 0 ≡ true = eq-eqb n 0 (sym len ∙ zero_len) in cc)
    by true e =
        let k = prefix_len is_hexadecimal ds in
        let s : 1 + k ≡ suc k = omega arith in
        let whole : prefix_len is_hexadecimal (d ∷ ds) ≡ suc k = rw (e, s) refl in
        subst (λ (m : ℕ). Spells (48 ∷ x ∷ d ∷ ds) 16 (take m (d ∷ ds)) (drop m (d ∷ ds))) (sym whole ∙ len)
        (subst (λ (t : Text). Spells (48 ∷ x ∷ d ∷ t) 16 (d ∷ take k ds) (drop k ds)) (take-append-drop k ds) (Spells.hexadecimal (take k ds) (drop k ds) first e (run_all is_hexadecimal ds)))

hexadecimal_of : (x : ℕ) (cs : Text) (v : ℕ) (k : IntType) → is_x x ≡ true → hexadecimal_in cs ≡ Some (v, k) → IsConstant (48 ∷ x ∷ cs) v k
hexadecimal_of x cs v k is e = by (eqb (prefix_len is_hexadecimal cs) 0) refl e
  where
    by : (t : Bool) → eqb (prefix_len is_hexadecimal cs) 0 ≡ t → cond t None (constant_in 16 (prefix_len is_hexadecimal cs) cs) ≡ Some (v, k) → IsConstant (48 ∷ x ∷ cs) v k
    by true z e = absurd cc
    by false z e = constant_of (48 ∷ x ∷ cs) 16 (prefix_len is_hexadecimal cs) cs v k e (hexadecimal_spells x cs (prefix_len is_hexadecimal cs) is refl z)

zero_of : (cs : Text) (v : ℕ) (k : IntType) → constant (48 ∷ cs) ≡ Some (v, k) → IsConstant (48 ∷ cs) v k
zero_of [] v k e = constant_of (48 ∷ []) 8 (prefix_len is_octal (48 ∷ [])) (48 ∷ []) v k (sym at_zero ∙ e) (octal_spells [])
zero_of (c ∷ cs) v k e = elim (cases_Bool (is_x c)) [
  | inl x ↦ hexadecimal_of c cs v k x (sym (at_x c cs x) ∙ e)
  | inr x ↦ constant_of (48 ∷ c ∷ cs) 8 (prefix_len is_octal (48 ∷ c ∷ cs)) (48 ∷ c ∷ cs) v k (sym (at_octal c cs x) ∙ e) (octal_spells (c ∷ cs))
]

pub is_constant : (text : Text) (v : ℕ) (k : IntType) → constant text ≡ Some (v, k) → IsConstant text v k
is_constant [] v k e = absurd (let bad : ◌≡◌ {A = Option (ℕ × IntType)} None (Some (v, k)) = sym empty_none ∙ e in cc)
is_constant (b ∷ bs) v k e = elim (cases_Bool (eqb b 48)) [
  | inl z ↦ (let same = eqb-true b 48 z in subst (λ (x : ℕ). IsConstant (x ∷ bs) v k) (sym same) (zero_of bs v k (subst (λ (x : ℕ). constant (x ∷ bs) ≡ Some (v, k)) same e)))
  | inr z ↦ elim (cases_Bool (is_digit b)) [
    | inl d ↦ constant_of (b ∷ bs) 10 (prefix_len is_digit (b ∷ bs)) (b ∷ bs) v k (sym (at_decimal b bs z d) ∙ e) (decimal_spells b bs z d)
    | inr d ↦ absurd (let bad : ◌≡◌ {A = Option (ℕ × IntType)} None (Some (v, k)) = sym (at_none b bs z d) ∙ e in cc)
  ]
]

-- ---- a constant is read
octal_at : (ds behind : Text) (s : Suffix) (v : ℕ) (k : IntType) → AllAre is_octal ds → suffix_of behind ≡ Some s → v ≡ digits_value 8 (48 ∷ ds) → first_holding v (candidates 8 s) ≡ Some k
    → (cs : Text) → cs ≡ ds ++ behind → constant (48 ∷ cs) ≡ constant_in 8 (prefix_len is_octal (48 ∷ cs)) (48 ∷ cs) → constant (48 ∷ cs) ≡ Some (v, k)
octal_at ds behind s v k all ends value holds cs is at =
    let stops = stops_octal behind (stops_digit behind (suffix_stops behind s ends)) in
    let len : prefix_len is_octal (48 ∷ cs) ≡ length (48 ∷ ds) = ap (λ (t : Text). prefix_len is_octal (48 ∷ t)) is ∙ run_len is_octal (48 ∷ ds) behind (refl, all) stops in
    at ∙ (ap (λ (n : ℕ). constant_in 8 n (48 ∷ cs)) len ∙ (ap (λ (t : Text). constant_in 8 (length (48 ∷ ds)) (48 ∷ t)) is ∙ constant_at 8 (48 ∷ ds) behind s v k ends value holds))

x_no_octal : (c : ℕ) → is_x c ≡ true → is_octal c ≡ false
x_no_octal c e = grind (arith, nat_tests)

x_no_suffix : (c : ℕ) → is_x c ≡ true → (is_u c || is_l c) ≡ false
x_no_suffix c e = grind (arith, nat_tests)

-- behind the 0 of an octal constant stands no x
no_x : (c : ℕ) (cs ds behind : Text) (s : Suffix) → AllAre is_octal ds → suffix_of behind ≡ Some s → c ∷ cs ≡ ds ++ behind → is_x c ≡ false
no_x c cs [] [] s all ends is = absurd cc
no_x c cs [] (b ∷ bs) s all ends is = by (is_x c) refl
  where
    same : c ≡ b
    same = cc

    by : (t : Bool) → is_x c ≡ t → is_x c ≡ false
    by false e = e
    by true e = absurd (no_letter b bs s (subst (λ (n : ℕ). (is_u n || is_l n) ≡ false) same (x_no_suffix c e)) ends)
no_x c cs (d ∷ ds) behind s all ends is = by (is_x c) refl
  where
    same : c ≡ d
    same = cc

    by : (t : Bool) → is_x c ≡ t → is_x c ≡ false
    by false e = e
    by true e = absurd (false≢true (sym (x_no_octal c e) ∙ (ap is_octal same ∙ all.0)))

octal_by : (cs ds behind : Text) (s : Suffix) → AllAre is_octal ds → suffix_of behind ≡ Some s → cs ≡ ds ++ behind → constant (48 ∷ cs) ≡ constant_in 8 (prefix_len is_octal (48 ∷ cs)) (48 ∷ cs)
octal_by [] ds behind s all ends is = at_zero
octal_by (c ∷ cs) ds behind s all ends is = at_octal c cs (no_x c cs ds behind s all ends is)

from_spells : (text : Text) (base : ℕ) (digits behind : Text) (s : Suffix) (v : ℕ) (k : IntType) → Spells text base digits behind → suffix_of behind ≡ Some s
    → v ≡ digits_value base digits → first_holding v (candidates base s) ≡ Some k → constant text ≡ Some (v, k)
from_spells text base digits behind s v k (Spells.decimal {d = d} ds b digit no_zero all) ends value holds =
    let stops = stops_digit b (suffix_stops b s ends) in
    let len : prefix_len is_digit (d ∷ (ds ++ b)) ≡ length (d ∷ ds) = run_len is_digit (d ∷ ds) b (digit, all) stops in
    at_decimal d (ds ++ b) (ne_eqb d 48 no_zero) digit ∙ (ap (λ (n : ℕ). constant_in 10 n (d ∷ (ds ++ b))) len ∙ constant_at 10 (d ∷ ds) b s v k ends value holds)
from_spells text base digits behind s v k (Spells.octal ds b all) ends value holds =
    octal_at ds b s v k all ends value holds (ds ++ b) refl (octal_by (ds ++ b) ds b s all ends refl)
from_spells text base digits behind s v k (Spells.hexadecimal {x = x} {d = d} ds b is digit all) ends value holds =
    let stops = suffix_stops b s ends in
    let x_is : is_x x ≡ true = elim is [ inl e ↦ or_left _ _ (eq-eqb x 120 e) | inr e ↦ or_right _ _ (eq-eqb x 88 e) ] in
    let len : prefix_len is_hexadecimal (d ∷ (ds ++ b)) ≡ length (d ∷ ds) = run_len is_hexadecimal (d ∷ ds) b (digit, all) stops in
    let inside : hexadecimal_in (d ∷ (ds ++ b)) ≡ constant_in 16 (length (d ∷ ds)) (d ∷ (ds ++ b)) = (let z : eqb (length (d ∷ ds)) 0 ≡ false = ne_eqb (length (d ∷ ds)) 0 (λ e. absurd (omega arith)) in rw (len, z) refl) in
    at_x x (d ∷ (ds ++ b)) x_is ∙ (inside ∙ constant_at 16 (d ∷ ds) b s v k ends value holds)

pub constant_is : (text : Text) (v : ℕ) (k : IntType) → IsConstant text v k → constant text ≡ Some (v, k)
constant_is text v k h = from_spells text h.base h.digits h.behind h.suffix v k h.spells h.ends h.value_is h.kind_is

pub none_is : (text : Text) → constant text ≡ None → (v : ℕ) (k : IntType) → IsConstant text v k → ⊥
none_is text e = λ v k h. (let bad : ◌≡◌ {A = Option (ℕ × IntType)} None (Some (v, k)) = sym e ∙ constant_is text v k h in cc)

pub constant_none : (text : Text) → ((v : ℕ) (k : IntType) → IsConstant text v k → ⊥) → constant text ≡ None
constant_none text never = by (constant text) refl
  where
    by : (o : Option (ℕ × IntType)) → constant text ≡ o → constant text ≡ None
    by None e = e
    by (Some p) e = absurd (never p.0 p.1 (is_constant text p.0 p.1 e))
