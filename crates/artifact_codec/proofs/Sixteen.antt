-- Sixteen bytes as a number, the highest first.
use Rattle.std.proofs.Common.{◌≡◌, ℕ, ◌+◌, ◌*◌, ◌/◌, ◌%◌, ◌^◌, ◌<◌, inl, inr, List, [], ◌∷◌, ◌++◌, length, get_or, take, drop, refl, sym, ap, ◌∙◌, arith}
use Rattle.std.specs.Int.{w64, w128, from_be_bytes, to_be_bytes}
use Rattle.std.proofs.lemmas.Bool.{cases_lt}
use Rattle.std.proofs.lemmas.List.{take-append-drop, length-take, length-drop, get_or-drop, get_or-take, get_or_past}
use Rattle.std.proofs.lemmas.Nat.{be_bytes_8, from_be_bytes-to_be_bytes_8}

halves : (bs : List ℕ) → length bs ≡ 16 → from_be_bytes w128 bs ≡ from_be_bytes w64 (take 8 bs) * 2 ^ 64 + from_be_bytes w64 (drop 8 bs)
halves [] l = absurd (omega arith)
halves (a ∷ []) l = absurd (omega arith)
halves (a ∷ b ∷ []) l = absurd (omega arith)
halves (a ∷ b ∷ c ∷ []) l = absurd (omega arith)
halves (a ∷ b ∷ c ∷ d ∷ []) l = absurd (omega arith)
halves (a ∷ b ∷ c ∷ d ∷ e ∷ []) l = absurd (omega arith)
halves (a ∷ b ∷ c ∷ d ∷ e ∷ f ∷ []) l = absurd (omega arith)
halves (a ∷ b ∷ c ∷ d ∷ e ∷ f ∷ g ∷ []) l = absurd (omega arith)
halves (a ∷ b ∷ c ∷ d ∷ e ∷ f ∷ g ∷ h ∷ []) l = absurd (omega arith)
halves (a ∷ b ∷ c ∷ d ∷ e ∷ f ∷ g ∷ h ∷ i ∷ []) l = absurd (omega arith)
halves (a ∷ b ∷ c ∷ d ∷ e ∷ f ∷ g ∷ h ∷ i ∷ j ∷ []) l = absurd (omega arith)
halves (a ∷ b ∷ c ∷ d ∷ e ∷ f ∷ g ∷ h ∷ i ∷ j ∷ k ∷ []) l = absurd (omega arith)
halves (a ∷ b ∷ c ∷ d ∷ e ∷ f ∷ g ∷ h ∷ i ∷ j ∷ k ∷ t ∷ []) l = absurd (omega arith)
halves (a ∷ b ∷ c ∷ d ∷ e ∷ f ∷ g ∷ h ∷ i ∷ j ∷ k ∷ t ∷ m ∷ []) l = absurd (omega arith)
halves (a ∷ b ∷ c ∷ d ∷ e ∷ f ∷ g ∷ h ∷ i ∷ j ∷ k ∷ t ∷ m ∷ n ∷ []) l = absurd (omega arith)
halves (a ∷ b ∷ c ∷ d ∷ e ∷ f ∷ g ∷ h ∷ i ∷ j ∷ k ∷ t ∷ m ∷ n ∷ o ∷ []) l = absurd (omega arith)
halves (a ∷ b ∷ c ∷ d ∷ e ∷ f ∷ g ∷ h ∷ i ∷ j ∷ k ∷ t ∷ m ∷ n ∷ o ∷ p ∷ []) l = omega arith
halves (a ∷ b ∷ c ∷ d ∷ e ∷ f ∷ g ∷ h ∷ i ∷ j ∷ k ∷ t ∷ m ∷ n ∷ o ∷ p ∷ x ∷ bs) l = absurd (omega arith)

byte_0 : (high low : ℕ) → low < 18446744073709551616 → (high * 18446744073709551616 + low) % 256 ≡ low % 256
byte_0 high low lt = omega arith

byte_1 : (high low : ℕ) → low < 18446744073709551616 → (high * 18446744073709551616 + low) / 256 % 256 ≡ low / 256 % 256
byte_1 high low lt = omega arith

byte_2 : (high low : ℕ) → low < 18446744073709551616 → (high * 18446744073709551616 + low) / 65536 % 256 ≡ low / 65536 % 256
byte_2 high low lt = omega arith

byte_3 : (high low : ℕ) → low < 18446744073709551616 → (high * 18446744073709551616 + low) / 16777216 % 256 ≡ low / 16777216 % 256
byte_3 high low lt = omega arith

byte_4 : (high low : ℕ) → low < 18446744073709551616 → (high * 18446744073709551616 + low) / 4294967296 % 256 ≡ low / 4294967296 % 256
byte_4 high low lt = omega arith

byte_5 : (high low : ℕ) → low < 18446744073709551616 → (high * 18446744073709551616 + low) / 1099511627776 % 256 ≡ low / 1099511627776 % 256
byte_5 high low lt = omega arith

byte_6 : (high low : ℕ) → low < 18446744073709551616 → (high * 18446744073709551616 + low) / 281474976710656 % 256 ≡ low / 281474976710656 % 256
byte_6 high low lt = omega arith

byte_7 : (high low : ℕ) → low < 18446744073709551616 → (high * 18446744073709551616 + low) / 72057594037927936 % 256 ≡ low / 72057594037927936 % 256
byte_7 high low lt = omega arith

byte_8 : (high low : ℕ) → low < 18446744073709551616 → (high * 18446744073709551616 + low) / 18446744073709551616 % 256 ≡ high % 256
byte_8 high low lt = omega arith

byte_9 : (high low : ℕ) → low < 18446744073709551616 → (high * 18446744073709551616 + low) / 4722366482869645213696 % 256 ≡ high / 256 % 256
byte_9 high low lt = omega arith

byte_10 : (high low : ℕ) → low < 18446744073709551616 → (high * 18446744073709551616 + low) / 1208925819614629174706176 % 256 ≡ high / 65536 % 256
byte_10 high low lt = omega arith

byte_11 : (high low : ℕ) → low < 18446744073709551616 → (high * 18446744073709551616 + low) / 309485009821345068724781056 % 256 ≡ high / 16777216 % 256
byte_11 high low lt = omega arith

byte_12 : (high low : ℕ) → low < 18446744073709551616 → (high * 18446744073709551616 + low) / 79228162514264337593543950336 % 256 ≡ high / 4294967296 % 256
byte_12 high low lt = omega arith

byte_13 : (high low : ℕ) → low < 18446744073709551616 → (high * 18446744073709551616 + low) / 20282409603651670423947251286016 % 256 ≡ high / 1099511627776 % 256
byte_13 high low lt = omega arith

byte_14 : (high low : ℕ) → low < 18446744073709551616 → (high * 18446744073709551616 + low) / 5192296858534827628530496329220096 % 256 ≡ high / 281474976710656 % 256
byte_14 high low lt = omega arith

byte_15 : (high low : ℕ) → low < 18446744073709551616 → (high * 18446744073709551616 + low) / 1329227995784915872903807060280344576 % 256 ≡ high / 72057594037927936 % 256
byte_15 high low lt = omega arith

written : (high low : ℕ) → low < 2 ^ 64 → to_be_bytes w128 (high * 2 ^ 64 + low) ≡ to_be_bytes w64 high ++ to_be_bytes w64 low
written high low lt = λ i. byte_15 high low lt i ∷ byte_14 high low lt i ∷ byte_13 high low lt i ∷ byte_12 high low lt i ∷ byte_11 high low lt i ∷ byte_10 high low lt i ∷ byte_9 high low lt i ∷ byte_8 high low lt i ∷ byte_7 high low lt i ∷ byte_6 high low lt i ∷ byte_5 high low lt i ∷ byte_4 high low lt i ∷ byte_3 high low lt i ∷ byte_2 high low lt i ∷ byte_1 high low lt i ∷ byte_0 high low lt i ∷ []

-- ---- sixteen bytes as two halves

below_sum : (high low : ℕ) → high < 2 ^ 64 → low < 2 ^ 64 → high * 2 ^ 64 + low < 2 ^ 128
below_sum high low h l = omega arith

below_64 : (bs : List ℕ) → ((i : ℕ) → get_or bs i 0 < 256) → from_be_bytes w64 bs < 2 ^ 64
below_64 bs fits = omega (arith, fits 0, fits 1, fits 2, fits 3, fits 4, fits 5, fits 6, fits 7)

front_fits : (n : ℕ) (bs : List ℕ) → ((i : ℕ) → get_or bs i 0 < 256) → (i : ℕ) → get_or (take n bs) i 0 < 256
front_fits n bs h i =
    elim (cases_lt i n) [
      | inl lt ↦ rw (get_or-take n bs i 0 lt) (h i)
      | inr le ↦ rw (get_or_past (take n bs) i 0 (omega (arith, length-take n bs))) (omega arith)
    ]

back_fits : (n : ℕ) (bs : List ℕ) → ((i : ℕ) → get_or bs i 0 < 256) → (i : ℕ) → get_or (drop n bs) i 0 < 256
back_fits n bs h i = rw get_or-drop (h (n + i))

pub below_128 : (bs : List ℕ) → length bs ≡ 16 → ((i : ℕ) → get_or bs i 0 < 256) → from_be_bytes w128 bs < 2 ^ 128
below_128 bs len fits =
    let high = below_64 (take 8 bs) (front_fits 8 bs fits) in
    let low = below_64 (drop 8 bs) (back_fits 8 bs fits) in
    rw (halves bs len) (below_sum (from_be_bytes w64 (take 8 bs)) (from_be_bytes w64 (drop 8 bs)) high low)

pub be_bytes_16 : (bs : List ℕ) → length bs ≡ 16 → ((i : ℕ) → get_or bs i 0 < 256) → to_be_bytes w128 (from_be_bytes w128 bs) ≡ bs
be_bytes_16 bs len fits =
    let high = from_be_bytes w64 (take 8 bs) in
    let low = from_be_bytes w64 (drop 8 bs) in
    let one : to_be_bytes w64 high ≡ take 8 bs = be_bytes_8 (take 8 bs) high (omega (arith, length-take 8 bs)) (front_fits 8 bs fits) refl in
    let two : to_be_bytes w64 low ≡ drop 8 bs = be_bytes_8 (drop 8 bs) low (omega (arith, length-drop 8 bs)) (back_fits 8 bs fits) refl in
    ap (λ n. to_be_bytes w128 n) (halves bs len) ∙ written high low (below_64 (drop 8 bs) (back_fits 8 bs fits))
    ∙ ap (λ (t : List ℕ). t ++ to_be_bytes w64 low) one ∙ ap (λ (t : List ℕ). take 8 bs ++ t) two ∙ take-append-drop 8 bs

pub from_to_16 : (n : ℕ) → n < 2 ^ 128 → from_be_bytes w128 (to_be_bytes w128 n) ≡ n
from_to_16 n lt =
    let high = n / 2 ^ 64 in
    let low = n % 2 ^ 64 in
    let split : n ≡ high * 2 ^ 64 + low = omega arith in
    let lower : low < 2 ^ 64 = omega arith in
    let higher : high < 2 ^ 64 = omega arith in
    let bytes : to_be_bytes w128 n ≡ to_be_bytes w64 high ++ to_be_bytes w64 low = ap (λ m. to_be_bytes w128 m) split ∙ written high low lower in
    ap (λ bs. from_be_bytes w128 bs) bytes ∙ halves (to_be_bytes w64 high ++ to_be_bytes w64 low) refl
    ∙ ap (λ m. m * 2 ^ 64 + from_be_bytes w64 (to_be_bytes w64 low)) (from_be_bytes-to_be_bytes_8 high higher)
    ∙ ap (λ m. high * 2 ^ 64 + m) (from_be_bytes-to_be_bytes_8 low lower) ∙ sym split
