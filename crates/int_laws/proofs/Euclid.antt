-- Floor quotients and the rests that they leave.
use Rattle.std.proofs.Common.{◌≡◌, ℕ, ◌<◌, ◌≤◌, ℤ, pos, negsuc, ◌+ℤ◌, ◌*ℤ◌, ◌≤ℤ◌, ◌<ℤ◌, ap, arith}
use Rattle.std.proofs.Math.Nat.{div-add-mod', div-le_self, mod-lt}
use Rattle.std.specs.Int.{int_div_euclid, int_rem_euclid}
use Rattle.std.proofs.lemmas.Int.{ints, by_lt_z}
use Rattle.int_laws.proofs.Products.{mul_mono, plus_times}
use Rattle.int_laws.proofs.Quotients.{div_right}

-- the floor quotient and what is left
pub euclid : (z : ℤ) (m : ℕ) → 0 < m → z ≡ (int_div_euclid z (pos m) *ℤ pos m) +ℤ int_rem_euclid z (pos m)
euclid (pos a) m p = omega (arith, ints, div-add-mod' a m)
euclid (negsuc a) m p = omega (arith, ints, div-add-mod' a m, mod-lt a p)

pub euclid_rest : (z : ℤ) (m : ℕ) → 0 < m → (pos 0 ≤ℤ int_rem_euclid z (pos m)) × (int_rem_euclid z (pos m) <ℤ pos m)
euclid_rest (pos a) m p = (omega (arith, ints), omega (arith, ints, mod-lt a p))
euclid_rest (negsuc a) m p = (omega (arith, ints), omega (arith, ints, mod-lt a p))

pub euclid_mono : (l z : ℤ) (m : ℕ) → 0 < m → l ≤ℤ z → int_div_euclid l (pos m) ≤ℤ int_div_euclid z (pos m)
euclid_mono l z m p h = by_lt_z (int_div_euclid z (pos m)) (int_div_euclid l (pos m))
    (λ s. absurd (
    let more : (int_div_euclid z (pos m) +ℤ pos 1) ≤ℤ int_div_euclid l (pos m) = omega (arith, ints, s) in
    let product = mul_mono (int_div_euclid z (pos m) +ℤ pos 1) (int_div_euclid l (pos m)) (pos m) more (omega (arith, ints)) in
    let u = euclid_rest l m p in
    let v = euclid_rest z m p in
    omega (arith, ints, product, plus_times (int_div_euclid z (pos m)) (pos 1) (pos m), euclid l m p, euclid z m p, u.0, v.1, h)))
    (λ s. s)

-- between two numbers of one floor quotient the rest grows with the number
pub rest_between : (l u z : ℤ) (m : ℕ) → 0 < m → l ≤ℤ z → z ≤ℤ u → int_div_euclid l (pos m) ≡ int_div_euclid u (pos m) →
    (int_rem_euclid l (pos m) ≤ℤ int_rem_euclid z (pos m)) × (int_rem_euclid z (pos m) ≤ℤ int_rem_euclid u (pos m))
rest_between l u z m p h k e =
    let a = euclid_mono l z m p h in
    let b = euclid_mono z u m p k in
    let f : int_div_euclid z (pos m) ≡ int_div_euclid l (pos m) = omega (arith, ints, a, b, e) in
    let g = ap (λ (q : ℤ). q *ℤ pos m) f in
    let g' = ap (λ (q : ℤ). q *ℤ pos m) e in
    (omega (arith, ints, euclid l m p, euclid z m p, g, h), omega (arith, ints, euclid z m p, euclid u m p, g, g', k))

-- a quotient whose rest lies from 0 to below the divisor is the floor quotient
pub quotient_unique : (z q r : ℤ) (m : ℕ) → z ≡ (q *ℤ pos m) +ℤ r → pos 0 ≤ℤ r → r <ℤ pos m → int_div_euclid z (pos m) ≡ q
quotient_unique z q r m e h k =
    let p : 0 < m = omega (arith, ints, h, k) in
    let b = euclid_rest z m p in
    let under : q ≤ℤ int_div_euclid z (pos m) = by_lt_z (int_div_euclid z (pos m)) q
    (λ s. absurd (
    let more : (int_div_euclid z (pos m) +ℤ pos 1) ≤ℤ q = omega (arith, ints, s) in
    let product = mul_mono (int_div_euclid z (pos m) +ℤ pos 1) q (pos m) more (omega (arith, ints)) in
    omega (arith, ints, product, plus_times (int_div_euclid z (pos m)) (pos 1) (pos m), euclid z m p, e, b.1, h)))
    (λ s. s) in
    let over : int_div_euclid z (pos m) ≤ℤ q = by_lt_z q (int_div_euclid z (pos m))
    (λ s. absurd (
    let more : (q +ℤ pos 1) ≤ℤ int_div_euclid z (pos m) = omega (arith, ints, s) in
    let product = mul_mono (q +ℤ pos 1) (int_div_euclid z (pos m)) (pos m) more (omega (arith, ints)) in
    omega (arith, ints, product, plus_times q (pos 1) (pos m), euclid z m p, e, b.0, k)))
    (λ s. s) in
    omega (arith, ints, under, over)

pub rest_unique : (z q r : ℤ) (m : ℕ) → z ≡ (q *ℤ pos m) +ℤ r → pos 0 ≤ℤ r → r <ℤ pos m → int_rem_euclid z (pos m) ≡ r
rest_unique z q r m e h k =
    let same = ap (λ (n : ℤ). n *ℤ pos m) (quotient_unique z q r m e h k) in
    omega (arith, ints, euclid z m (omega (arith, ints, h, k)), e, same)

-- a floor quotient lies between the number and 0, or -1 for a number below 0
pub quotient_up : (z : ℤ) (m : ℕ) → pos 0 ≤ℤ z → (pos 0 ≤ℤ int_div_euclid z (pos m)) × (int_div_euclid z (pos m) ≤ℤ z)
quotient_up (pos a) m h = (omega (arith, ints), omega (arith, ints, div-le_self a m))
quotient_up (negsuc a) m h = absurd (omega (arith, ints, h))

pub quotient_down : (z : ℤ) (m : ℕ) → z <ℤ pos 0 → (z ≤ℤ int_div_euclid z (pos m)) × (int_div_euclid z (pos m) <ℤ pos 0)
quotient_down (pos a) m h = absurd (omega (arith, ints, h))
quotient_down (negsuc a) m h = (omega (arith, ints, div-le_self a m), omega (arith, ints))

-- by a greater divisor a number from 0 has a lesser floor quotient, and one below 0 a greater one
pub quotient_less : (z : ℤ) (m n : ℕ) → 0 < m → m ≤ n → pos 0 ≤ℤ z → int_div_euclid z (pos n) ≤ℤ int_div_euclid z (pos m)
quotient_less (pos a) m n p h k = omega (arith, ints, div_right a m n p h)
quotient_less (negsuc a) m n p h k = absurd (omega (arith, ints, k))

pub quotient_more : (z : ℤ) (m n : ℕ) → 0 < m → m ≤ n → z <ℤ pos 0 → int_div_euclid z (pos m) ≤ℤ int_div_euclid z (pos n)
quotient_more (pos a) m n p h k = absurd (omega (arith, ints, k))
quotient_more (negsuc a) m n p h k = omega (arith, ints, div_right a m n p h)
