-- Numbers of four bytes, the highest first.
use Rattle.std.proofs.Common.{◌≡◌, ℕ, ◌+◌, ◌<◌, ◌^◌, List, ◌++◌, length, get_or, take, drop, sym, ◌∙◌, ap, arith, append_assoc, length-drop, inl, inr}
use Rattle.std.proofs.lemmas.List.{get_or-take, get_or-drop, get_or_past, take-append-drop, drop-drop, length-take-le, length-take, take_all}
use Rattle.std.proofs.lemmas.Nat.{be_bytes_4, from_be_bytes-to_be_bytes_4}
use Rattle.std.proofs.lemmas.Bool.{cases_lt}
use Rattle.std.specs.Int.{w32, from_be_bytes}
use Rattle.byteorder.specs.Endian.{big_bytes, big_number}

-- a list of bytes
abbrev pub AreBytes : List ℕ → Type 0
AreBytes bytes = (i : ℕ) → get_or bytes i 0 < 256

pub same_number : (bytes : List ℕ) → big_number 4 bytes ≡ from_be_bytes w32 bytes
same_number bytes = omega arith

pub number_spelled : (bytes : List ℕ) → length bytes ≡ 4 → AreBytes bytes → big_bytes 4 (big_number 4 bytes) ≡ bytes
number_spelled bytes four fits = be_bytes_4 bytes (big_number 4 bytes) four fits (same_number bytes)

pub same_spelling : (a b : ℕ) → a < 2 ^ 32 → b < 2 ^ 32 → big_bytes 4 a ≡ big_bytes 4 b → a ≡ b
same_spelling a b le le' same = sym (from_be_bytes-to_be_bytes_4 a le) ∙ (ap (from_be_bytes w32) same ∙ from_be_bytes-to_be_bytes_4 b le')

pub bytes_drop : (n : ℕ) (bytes : List ℕ) → AreBytes bytes → AreBytes (drop n bytes)
bytes_drop n bytes fits i = rw (get_or-drop n bytes i 0) (fits (n + i))

pub bytes_take : (n : ℕ) (bytes : List ℕ) → AreBytes bytes → AreBytes (take n bytes)
bytes_take n bytes fits i = elim (cases_lt i n) [
  | inl within ↦ rw (get_or-take n bytes i 0 within) (fits i)
  | inr past ↦ let none : get_or (take n bytes) i 0 ≡ 0 = get_or_past (take n bytes) i 0 (omega (arith, past, length-take n bytes)) in omega (arith, none)
]

pub three_numbers : (bytes : List ℕ) (x y z : ℕ) → length bytes ≡ 12 → AreBytes bytes → x ≡ big_number 4 (take 4 bytes) → y ≡ big_number 4 (take 4 (drop 4 bytes)) → z ≡ big_number 4 (take 4 (drop 8 bytes))
    → big_bytes 4 x ++ big_bytes 4 y ++ big_bytes 4 z ≡ bytes
three_numbers bytes x y z twelve fits one two three =
    let first : big_bytes 4 x ≡ take 4 bytes = ap (big_bytes 4) one ∙ number_spelled (take 4 bytes) (length-take-le 4 bytes (omega (arith, twelve))) (bytes_take 4 bytes fits) in
    let second : big_bytes 4 y ≡ take 4 (drop 4 bytes) = ap (big_bytes 4) two ∙ number_spelled (take 4 (drop 4 bytes)) (length-take-le 4 (drop 4 bytes) (omega (arith, twelve, length-drop 4 bytes))) (bytes_take 4 (drop 4 bytes) (bytes_drop 4 bytes fits)) in
    let third : big_bytes 4 z ≡ drop 8 bytes = ap (big_bytes 4) (three ∙ ap (big_number 4) (take_all 4 (drop 8 bytes) (omega (arith, twelve, length-drop 8 bytes)))) ∙ number_spelled (drop 8 bytes) (omega (arith, twelve, length-drop 8 bytes)) (bytes_drop 8 bytes fits) in
    let split : drop 4 bytes ≡ take 4 (drop 4 bytes) ++ drop 8 bytes = sym (take-append-drop 4 (drop 4 bytes)) ∙ ap (λ (l : List ℕ). take 4 (drop 4 bytes) ++ l) (drop-drop 4 4 bytes) in
    let joined : take 4 bytes ++ take 4 (drop 4 bytes) ++ drop 8 bytes ≡ bytes = append_assoc (take 4 bytes) (take 4 (drop 4 bytes)) (drop 8 bytes) ∙ (ap (λ (l : List ℕ). take 4 bytes ++ l) (sym split) ∙ take-append-drop 4 bytes) in
    (λ i. first i ++ second i ++ third i) ∙ joined
