-- Numbers whose binary digits are all ones.
use Rattle.std.proofs.Common.{◌≡◌, ℕ, suc, ◌+◌, ◌-◌, ◌*◌, ◌^◌, ◌<◌, ◌≤◌, pos, arith}
use Rattle.std.proofs.lemmas.Int.{ints, by_lt_z}
use Rattle.std.specs.Int.{leading_zeros, w128}
use Rattle.std.proofs.Math.Nat.{pow-le-pow_right, two-pow-succ}
use Rattle.std.proofs.lemmas.Nat.{leading_length, pow_below}

-- a number has its digits, and no fewer would do
pub record HasDigits (n : ℕ) : Type 0 where
  pub below : n < 2 ^ (128 - leading_zeros w128 n)
  pub least : 2 ^ (128 - leading_zeros w128 n) ≤ 2 * n + 1

pub digits_are : (n : ℕ) → n < 2 ^ 64 → HasDigits n
digits_are n h =
    let l = leading_length 128 n (omega (arith, h)) in
    let e : 128 - leading_zeros w128 n ≡ l.0 = omega (arith, l.1) in
    record { below = rw e l.2; least = rw e l.3 }

-- a number below 2 ^ k has at most k digits
pub few_digits : (n k : ℕ) → n < 2 ^ 64 → n < 2 ^ k → 2 ^ (128 - leading_zeros w128 n) ≤ 2 ^ k
few_digits n k h g = by_lt_z (pos k) (pos (128 - leading_zeros w128 n))
    (λ s. absurd (
    let more : suc k ≤ 128 - leading_zeros w128 n = omega (arith, ints, s) in
    let up : 2 ^ suc k ≤ 2 ^ (128 - leading_zeros w128 n) = pow-le-pow_right (omega arith) more in
    omega (arith, up, two-pow-succ k, (digits_are n h).least, g)))
    (λ s. pow-le-pow_right (omega arith) (omega (arith, ints, s)))

pub digits_few : (n : ℕ) → n < 2 ^ 64 → 128 - leading_zeros w128 n ≤ 64
digits_few n h = by_lt_z (pos 64) (pos (128 - leading_zeros w128 n))
    (λ s. absurd (
    let up : 2 ^ 64 < 2 ^ (128 - leading_zeros w128 n) = pow_below 64 (128 - leading_zeros w128 n) (omega (arith, ints, s)) in
    omega (arith, up, few_digits n 64 h h)))
    (λ s. omega (arith, ints, s))
