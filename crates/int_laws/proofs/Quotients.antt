-- Quotients that are cut towards zero, and their order.
use Rattle.std.proofs.Common.{◌≡◌, ℕ, zero, suc, ◌/◌, ◌<◌, ◌≤◌, ◌⊎◌, inl, inr, ℤ, pos, negsuc, neg_ℤ, unsigned_abs, ◌≤ℤ◌, ◌<ℤ◌, refl, sym, ap, arith}
use Rattle.std.proofs.Math.Nat.{div-zero, div-mul-le_self, mod-eq_of_lt, mod-le, mod-lt, mul-le-mul_left, zero-div}
use Rattle.std.proofs.Math.IntN.{neg_ℤ-neg_ℤ}
use Rattle.std.specs.Int.RustNames.{int_div, int_rem}
use Rattle.std.proofs.lemmas.Int.{ints}
use Rattle.std.proofs.lemmas.Nat.{le-div}

-- quotients of natural numbers
pub div_left : (a b n : ℕ) → a ≤ b → a / n ≤ b / n
div_left a b zero h = rw (div-zero a, div-zero b) (omega arith)
div_left a b (suc n) h = le-div (a / suc n) b (suc n) (omega arith) (omega (arith, h, div-mul-le_self a (suc n)))

pub div_right : (a n k : ℕ) → 0 < n → n ≤ k → a / k ≤ a / n
div_right a n k p h = le-div (a / k) a n p (omega (arith, div-mul-le_self a k, mul-le-mul_left (a / k) h))

-- quotients of integers: with a divisor above 0 they grow with the dividend
pub quot_mono : (a b : ℤ) (n : ℕ) → a ≤ℤ b → int_div a (pos n) ≤ℤ int_div b (pos n)
quot_mono (pos a) (pos b) n h = omega (arith, ints, div_left a b n (omega (arith, ints, h)))
quot_mono (pos a) (negsuc b) n h = absurd (omega (arith, ints, h))
quot_mono (negsuc a) (pos b) n h = omega (arith, ints)
quot_mono (negsuc a) (negsuc b) n h = omega (arith, ints, div_left (suc b) (suc a) n (omega (arith, ints, h)))

quot_side : (x : ℤ) (n k : ℕ) → 0 < n → n ≤ k → ((int_div x (pos n) ≤ℤ int_div x (pos k)) × (x ≤ℤ pos 0)) ⊎ ((int_div x (pos k) ≤ℤ int_div x (pos n)) × (pos 0 ≤ℤ x))
quot_side (pos a) n k p h = inr (omega (arith, ints, div_right a n k p h), omega (arith, ints))
quot_side (negsuc a) n k p h = inl (omega (arith, ints, div_right (suc a) n k p h), omega (arith, ints))

-- x lies from a to b, and k from n to o
pub quot_low : (a b x m : ℤ) (n o k : ℕ) → a ≤ℤ x → x ≤ℤ b → 0 < n → n ≤ k → k ≤ o → m ≤ℤ int_div a (pos n) → m ≤ℤ int_div a (pos o) → m ≤ℤ int_div x (pos k)
quot_low a b x m n o k h g p q r s t = elim (quot_side a n k p q) [
  | inl u ↦ omega (arith, ints, u.0, s, quot_mono a x k h)
  | inr u ↦ elim (quot_side a k o (omega arith) r) [
    | inl v ↦ omega (arith, ints, quot_mono a x k h, u.0, t, v.0, s, quot_side_zero a k o v.1 u.1)
    | inr v ↦ omega (arith, ints, v.0, t, quot_mono a x k h)
  ]
]
  where
    quot_side_zero : (a : ℤ) (k o : ℕ) → a ≤ℤ pos 0 → pos 0 ≤ℤ a → int_div a (pos k) ≡ int_div a (pos o)
    quot_side_zero (pos zero) k o _ _ = rw (zero-div k, zero-div o) refl
    quot_side_zero (pos (suc a)) k o h _ = absurd (omega (arith, ints, h))
    quot_side_zero (negsuc a) k o _ h = absurd (omega (arith, ints, h))

pub quot_neg : (x : ℤ) (n : ℕ) → int_div (neg_ℤ x) (pos n) ≡ neg_ℤ (int_div x (pos n))
quot_neg (pos zero) n = rw (zero-div n) refl
quot_neg (pos (suc a)) n = refl
quot_neg (negsuc a) n = sym (neg_ℤ-neg_ℤ (pos (suc a / n)))

quot_flip : (x : ℤ) (n : ℕ) → int_div x (negsuc n) ≡ neg_ℤ (int_div x (pos (suc n)))
quot_flip (pos a) n = refl
quot_flip (negsuc a) n = sym (neg_ℤ-neg_ℤ (pos (suc a / suc n)))

pub quot_high : (a b x m : ℤ) (n o k : ℕ) → a ≤ℤ x → x ≤ℤ b → 0 < n → n ≤ k → k ≤ o → int_div b (pos n) ≤ℤ m → int_div b (pos o) ≤ℤ m → int_div x (pos k) ≤ℤ m
quot_high a b x m n o k h g p q r s t =
    let u = quot_low (neg_ℤ b) (neg_ℤ a) (neg_ℤ x) (neg_ℤ m) n o k (omega (arith, ints, g)) (omega (arith, ints, h)) p q r (omega (arith, ints, quot_neg b n, s)) (omega (arith, ints, quot_neg b o, t)) in
    omega (arith, ints, u, quot_neg x k)

-- the corners bound a quotient whose divisor keeps its sign
pub quot_above : (a b c d x y : ℤ) → a ≤ℤ x → x ≤ℤ b → c ≤ℤ y → y ≤ℤ d → pos 0 <ℤ c → (m : ℤ) →
    (m ≤ℤ int_div a c → m ≤ℤ int_div a d → m ≤ℤ int_div x y) × (int_div b c ≤ℤ m → int_div b d ≤ℤ m → int_div x y ≤ℤ m)
quot_above a b (pos c) (pos d) x (pos y) h g p q z m = (
  quot_low a b x m c d y h g (omega (arith, ints, z)) (omega (arith, ints, p)) (omega (arith, ints, q)),
  quot_high a b x m c d y h g (omega (arith, ints, z)) (omega (arith, ints, p)) (omega (arith, ints, q)),
)
quot_above a b (negsuc c) d x y h g p q z m = absurd (omega (arith, ints, z))
quot_above a b (pos c) (negsuc d) x y h g p q z m = absurd (omega (arith, ints, z, p, q))
quot_above a b (pos c) (pos d) x (negsuc y) h g p q z m = absurd (omega (arith, ints, z, p, q))

pub quot_below : (a b c d x y : ℤ) → a ≤ℤ x → x ≤ℤ b → c ≤ℤ y → y ≤ℤ d → d <ℤ pos 0 → (m : ℤ) →
    (m ≤ℤ int_div b c → m ≤ℤ int_div b d → m ≤ℤ int_div x y) × (int_div a c ≤ℤ m → int_div a d ≤ℤ m → int_div x y ≤ℤ m)
quot_below a b (negsuc c) (negsuc d) x (negsuc y) h g p q z m = (
  λ s t. omega (arith, ints, quot_flip x y, quot_high a b x (neg_ℤ m) (suc d) (suc c) (suc y) h g (omega arith) (omega (arith, ints, q)) (omega (arith, ints, p)) (omega (arith, ints, t, quot_flip b d)) (omega (arith, ints, s, quot_flip b c))),
  λ s t. omega (arith, ints, quot_flip x y, quot_low a b x (neg_ℤ m) (suc d) (suc c) (suc y) h g (omega arith) (omega (arith, ints, q)) (omega (arith, ints, p)) (omega (arith, ints, t, quot_flip a d)) (omega (arith, ints, s, quot_flip a c))),
)
quot_below a b (pos c) d x y h g p q z m = absurd (omega (arith, ints, z, p, q))
quot_below a b (negsuc c) (pos d) x y h g p q z m = absurd (omega (arith, ints, z))
quot_below a b (negsuc c) (negsuc d) x (pos y) h g p q z m = absurd (omega (arith, ints, z, q))

-- the remainder has the sign of the dividend, and lies nearer to 0 than dividend and divisor
pub record IsRest (x d r : ℤ) : Type 0 where
  pub up : pos 0 ≤ℤ x → (pos 0 ≤ℤ r) × (r ≤ℤ x) × (r <ℤ pos (unsigned_abs d))
  pub down : x <ℤ pos 0 → (r ≤ℤ pos 0) × (x ≤ℤ r) × (neg_ℤ (pos (unsigned_abs d)) <ℤ r)

pub rest_is : (x d : ℤ) → 0 < unsigned_abs d → IsRest x d (int_rem x d)
rest_is (pos a) d p = record {
  up = λ _. (omega (arith, ints), omega (arith, ints, mod-le a (unsigned_abs d)), omega (arith, ints, mod-lt a p));
  down = λ h. absurd (omega (arith, ints, h));
}
rest_is (negsuc a) d p = record {
  up = λ h. absurd (omega (arith, ints, h));
  down = λ _. (omega (arith, ints), omega (arith, ints, mod-le (suc a) (unsigned_abs d)), omega (arith, ints, mod-lt (suc a) p));
}

-- a dividend from 0 to below the divisor is its own remainder
pub rest_small : (x d : ℤ) → pos 0 ≤ℤ x → x <ℤ pos (unsigned_abs d) → int_rem x d ≡ x
rest_small (pos a) d h k = ap pos (mod-eq_of_lt (omega (arith, ints, k)))
rest_small (negsuc a) d h k = absurd (omega (arith, ints, h))
