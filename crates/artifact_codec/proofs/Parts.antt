-- A field that is read is the field that was written, and what was written is read again.
use Rattle.std.proofs.Common.{◌≡◌, ℕ, suc, ℤ, pos, negsuc, ◌+◌, ◌-◌, ◌^◌, ◌<◌, ◌≤◌, Bool, true, false, cond, ltb, List, [], ◌∷◌, ◌++◌, length, get_or, take, drop, Option, Some, None, refl, sym, ap, ◌∙◌, append_assoc, arith, inl, inr}
use Rattle.std.specs.Int.{w32, w128, from_be_bytes, to_be_bytes, cast_signed, cast_unsigned}
use Rattle.std.proofs.lemmas.Bool.{cases_lt, ltb-true, ltb-false, lt-ltb, le-ltb}
use Rattle.std.proofs.lemmas.List.{take-append-drop, length-append, length-take, get_or-drop, get_or-take, get_or_past}
use Rattle.std.proofs.lemmas.Nat.{be_bytes_4, from_be_bytes-to_be_bytes_4}
use Rattle.std.proofs.lemmas.Int.{to_z-of_z, of_z-to_z}
use Rattle.artifact_codec.specs.Spelling.{number, signed}
use Rattle.artifact_codec.specs.Demands.{is_u32, is_i128}
use Rattle.std.specs.Int.RustNames.{FitsSigned}
use Rattle.artifact_codec.proofs.Sixteen.{be_bytes_16, below_128, from_to_16}
use Rattle.artifact_codec.specs.computed.Reading.{◌>>=◌, number_at, signed_at}

abbrev pub IsBytes : List ℕ → Type 0
IsBytes bytes = (i : ℕ) → get_or bytes i 0 < 256

pub IsBytes-drop : (n : ℕ) (bytes : List ℕ) → IsBytes bytes → IsBytes (drop n bytes)
IsBytes-drop n bytes h i = rw get_or-drop (h (n + i))

pub IsBytes-take : (n : ℕ) (bytes : List ℕ) → IsBytes bytes → IsBytes (take n bytes)
IsBytes-take n bytes h i =
    elim (cases_lt i n) [
      | inl lt ↦ rw (get_or-take n bytes i 0 lt) (h i)
      | inr le ↦ rw (get_or_past (take n bytes) i 0 (omega (arith, length-take n bytes))) (omega arith)
    ]

pub IsBytes-rest : (b : ℕ) (bytes : List ℕ) → IsBytes (b ∷ bytes) → IsBytes bytes
IsBytes-rest b bytes h i = h (suc i)

-- the value of a step that gave one
pub bind_some : {A B : Type 0} (r : Option A) (f : A → Option B) (y : B) → (r >>= f) ≡ Some y → (x : A) × (r ≡ Some x) × (f x ≡ Some y)
bind_some (Some x) f y e = (x, refl, e)
bind_some None f y e = absurd cc

-- a test that was passed, and one that was to fail
pub guard_some : {A : Type 0} (b : Bool) (x y : A) → cond b (Some x) None ≡ Some y → (b ≡ true) × (x ≡ y)
guard_some true x y e = (refl, cc)
guard_some false x y e = absurd cc

pub guard_none : {A : Type 0} (b : Bool) (x y : A) → cond b None (Some x) ≡ Some y → (b ≡ false) × (x ≡ y)
guard_none true x y e = absurd cc
guard_none false x y e = (refl, cc)

abbrev some : {A : Type 0} → A → Option A
some x = Some x

pub some_is : {A : Type 0} (x y : A) → some x ≡ some y → x ≡ y
some_is x y e = cc

-- what a reader took from the front
pub record Takes (bytes text rest : List ℕ) : Type 0 where
  pub parts : bytes ≡ text ++ rest
  pub rest_fits : IsBytes rest

pub Takes-then : (a x b y c : List ℕ) → Takes a x b → Takes b y c → Takes a (x ++ y) c
Takes-then a x b y c p q = record { parts = p.parts ∙ ap (λ (t : List ℕ). x ++ t) q.parts ∙ sym (append_assoc x y c); rest_fits = q.rest_fits }

-- the first value that was read, and what was read behind it
pub record First {A B : Type 0} (spell : A → List ℕ) (good : A → Bool) (next : A × List ℕ → Option B) (bytes : List ℕ) (y : B) : Type 0 where
  pub value : A
  pub rest : List ℕ
  pub then_is : next (value, rest) ≡ Some y
  pub takes : Takes bytes (spell value) rest
  pub holds : good value ≡ true

pub Takes-one : (b : ℕ) (bytes : List ℕ) → IsBytes (b ∷ bytes) → Takes (b ∷ bytes) (b ∷ []) bytes
Takes-one b bytes fits = record { parts = refl; rest_fits = IsBytes-rest b bytes fits }

-- ---- fields

-- a reader takes spellings of values for which `good` holds, and takes all of these
pub record IsField {A : Type 0} (at : List ℕ → Option (A × List ℕ)) (spell : A → List ℕ) (good : A → Bool) : Type 0 where
  pub takes : (bytes : List ℕ) (x : A) (rest : List ℕ) → IsBytes bytes → at bytes ≡ Some (x, rest) → Takes bytes (spell x) rest × (good x ≡ true)
  pub again : (x : A) (rest : List ℕ) → good x ≡ true → at (spell x ++ rest) ≡ Some (x, rest)

pub first : {A B : Type 0} {at : List ℕ → Option (A × List ℕ)} {spell : A → List ℕ} {good : A → Bool} → IsField at spell good → (next : A × List ℕ → Option B) (bytes : List ℕ) (y : B) → IsBytes bytes → (at bytes >>= next) ≡ Some y → First spell good next bytes y
first {at = at} field next bytes y fits e =
    let b = bind_some (at bytes) next y e in
    let t = field.takes bytes b.0.0 b.0.1 fits b.1 in
    record { value = b.0.0; rest = b.0.1; then_is = b.2; takes = t.0; holds = t.1 }

number_takes : (bytes : List ℕ) (n : ℕ) (rest : List ℕ) → IsBytes bytes → number_at bytes ≡ Some (n, rest) → Takes bytes (number n) rest × (is_u32 n ≡ true)
unfolding number number_at
number_takes bytes n rest fits e =
    let g = guard_none (ltb (length bytes) 4) (from_be_bytes w32 (take 4 bytes), drop 4 bytes) (n, rest) e in
    let long : 4 ≤ length bytes = ltb-false _ _ g.0 in
    let n-is : from_be_bytes w32 (take 4 bytes) ≡ n = ap (λ (p : ℕ × List ℕ). p.0) g.1 in
    let rest-is : drop 4 bytes ≡ rest = ap (λ (p : ℕ × List ℕ). p.1) g.1 in
    let front_fits = IsBytes-take 4 bytes fits in
    let front : to_be_bytes w32 n ≡ take 4 bytes = be_bytes_4 (take 4 bytes) n (omega (arith, length-take 4 bytes)) front_fits (sym n-is) in
    let below : n < 2 ^ 32 = rw (← n-is) (omega (arith, front_fits 0, front_fits 1, front_fits 2, front_fits 3)) in
    (record { parts = sym (take-append-drop 4 bytes) ∙ ap (λ (t : List ℕ). t ++ drop 4 bytes) (sym front) ∙ ap (λ (t : List ℕ). number n ++ t) rest-is; rest_fits = rw (← rest-is) (IsBytes-drop 4 bytes fits) }, lt-ltb n (2 ^ 32) below)

number_again : (n : ℕ) (rest : List ℕ) → is_u32 n ≡ true → number_at (number n ++ rest) ≡ Some (n, rest)
unfolding number number_at
number_again n rest small =
    let lt : n < 2 ^ 32 = ltb-true n (2 ^ 32) small in
    let back : from_be_bytes w32 (to_be_bytes w32 n) ≡ n = from_be_bytes-to_be_bytes_4 n lt in
    let text = to_be_bytes w32 n in
    let long : ltb (length (text ++ rest)) 4 ≡ false = le-ltb _ _ (omega (arith, length-append text rest)) in
    rw long (ap (λ (m : ℕ). some {A = ℕ × List ℕ} (m, rest)) back)

pub number_field : IsField number_at number is_u32
number_field = record { takes = number_takes; again = number_again }

i128_fits : (z : ℤ) → is_i128 z ≡ true → FitsSigned w128 z
i128_fits (pos n) h = record { sfits = ltb-true n (2 ^ 127) h }
i128_fits (negsuc n) h = record { sfits = ltb-true n (2 ^ 127) h }

cast_below : (z : ℤ) → FitsSigned w128 z → cast_unsigned w128 z < 2 ^ 128
cast_below (pos n) f = omega (arith, f.sfits)
cast_below (negsuc n) f = omega (arith, f.sfits)

fits_i128 : (n : ℕ) → n < 2 ^ 128 → is_i128 (cast_signed w128 n) ≡ true
fits_i128 n lt =
    elim (cases_lt n (2 ^ 127)) [
      | inl small ↦ rw (lt-ltb n (2 ^ 127) small) (lt-ltb n (2 ^ 127) small)
      | inr large ↦ rw (le-ltb n (2 ^ 127) large) (lt-ltb (2 ^ 128 - suc n) (2 ^ 127) (omega arith))
    ]

signed_takes : (bytes : List ℕ) (z : ℤ) (rest : List ℕ) → IsBytes bytes → signed_at bytes ≡ Some (z, rest) → Takes bytes (signed z) rest × (is_i128 z ≡ true)
unfolding signed signed_at
signed_takes bytes z rest fits e =
    let n = from_be_bytes w128 (take 16 bytes) in
    let g = guard_none (ltb (length bytes) 16) (cast_signed w128 n, drop 16 bytes) (z, rest) e in
    let long : 16 ≤ length bytes = ltb-false _ _ g.0 in
    let z-is : cast_signed w128 n ≡ z = ap (λ (p : ℤ × List ℕ). p.0) g.1 in
    let rest-is : drop 16 bytes ≡ rest = ap (λ (p : ℤ × List ℕ). p.1) g.1 in
    let front_fits = IsBytes-take 16 bytes fits in
    let len : length (take 16 bytes) ≡ 16 = omega (arith, length-take 16 bytes) in
    let below : n < 2 ^ 128 = below_128 (take 16 bytes) len front_fits in
    let same : cast_unsigned w128 z ≡ n = ap (λ (y : ℤ). cast_unsigned w128 y) (sym z-is) ∙ of_z-to_z w128 n below in
    let front : signed z ≡ take 16 bytes = ap (λ (m : ℕ). to_be_bytes w128 m) same ∙ be_bytes_16 (take 16 bytes) len front_fits in
    (record { parts = sym (take-append-drop 16 bytes) ∙ ap (λ (t : List ℕ). t ++ drop 16 bytes) (sym front) ∙ ap (λ (t : List ℕ). signed z ++ t) rest-is; rest_fits = rw (← rest-is) (IsBytes-drop 16 bytes fits) }, rw (← z-is) (fits_i128 n below))

signed_again : (z : ℤ) (rest : List ℕ) → is_i128 z ≡ true → signed_at (signed z ++ rest) ≡ Some (z, rest)
unfolding signed signed_at
signed_again z rest small =
    let f = i128_fits z small in
    let back : cast_signed w128 (from_be_bytes w128 (to_be_bytes w128 (cast_unsigned w128 z))) ≡ z = ap (λ (m : ℕ). cast_signed w128 m) (from_to_16 (cast_unsigned w128 z) (cast_below z f)) ∙ to_z-of_z w128 z f in
    let text = to_be_bytes w128 (cast_unsigned w128 z) in
    let long : ltb (length (text ++ rest)) 16 ≡ false = le-ltb _ _ (omega (arith, length-append text rest)) in
    rw long (ap (λ (y : ℤ). some {A = ℤ × List ℕ} (y, rest)) back)

pub signed_field : IsField signed_at signed is_i128
signed_field = record { takes = signed_takes; again = signed_again }
