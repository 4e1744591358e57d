-- Products of integers and their order.
use Rattle.std.proofs.Common.{◌≡◌, ℕ, suc, ◌*◌, ℤ, pos, negsuc, ◌+ℤ◌, ◌*ℤ◌, ◌≤ℤ◌, ap, arith}
use Rattle.std.proofs.Math.Nat.{mul-le-mul_right}
use Rattle.std.proofs.Math.IntN.{*ℤ_comm}
use Rattle.std.proofs.lemmas.Int.{ints, by_lt_z}
use borrow.Author.Differences.{le_out, sum_is_lem}

pub mul_mono : (a b y : ℤ) → a ≤ℤ b → pos 0 ≤ℤ y → (a *ℤ y) ≤ℤ (b *ℤ y)
mul_mono a b (pos n) h k = omega (arith, ints, mul-le-mul_right n (le_out a b h))
mul_mono a b (negsuc n) h k = absurd (omega (arith, ints, k))

pub mul_anti : (a b y : ℤ) → a ≤ℤ b → y ≤ℤ pos 0 → (b *ℤ y) ≤ℤ (a *ℤ y)
mul_anti a b (pos n) h k = let z : n ≡ 0 = omega (arith, ints, k) in rw z (omega (arith, ints))
mul_anti a b (negsuc n) h k = omega (arith, ints, mul-le-mul_right (suc n) (le_out a b h))

-- x lies from a to b
pub over_low : (a b x y m : ℤ) → a ≤ℤ x → x ≤ℤ b → m ≤ℤ (a *ℤ y) → m ≤ℤ (b *ℤ y) → m ≤ℤ (x *ℤ y)
over_low a b x y m h k p q = by_lt_z y (pos 0)
    (λ s. omega (arith, ints, mul_anti x b y k (omega (arith, ints, s)), q))
    (λ s. omega (arith, ints, mul_mono a x y h s, p))

pub over_high : (a b x y m : ℤ) → a ≤ℤ x → x ≤ℤ b → (a *ℤ y) ≤ℤ m → (b *ℤ y) ≤ℤ m → (x *ℤ y) ≤ℤ m
over_high a b x y m h k p q = by_lt_z y (pos 0)
    (λ s. omega (arith, ints, mul_anti a x y h (omega (arith, ints, s)), p))
    (λ s. omega (arith, ints, mul_mono x b y k s, q))

-- the four corners bound a product
pub corner_low : (a b c d x y m : ℤ) → a ≤ℤ x → x ≤ℤ b → c ≤ℤ y → y ≤ℤ d → m ≤ℤ (a *ℤ c) → m ≤ℤ (a *ℤ d) → m ≤ℤ (b *ℤ c) → m ≤ℤ (b *ℤ d) → m ≤ℤ (x *ℤ y)
corner_low a b c d x y m h k p q ac ad bc bd = over_low a b x y m h k (side a ac ad) (side b bc bd)
  where
    side : (e : ℤ) → m ≤ℤ (e *ℤ c) → m ≤ℤ (e *ℤ d) → m ≤ℤ (e *ℤ y)
    side e f g = rw (*ℤ_comm e y) (over_low c d y e m p q (rw (*ℤ_comm c e) f) (rw (*ℤ_comm d e) g))

pub corner_high : (a b c d x y m : ℤ) → a ≤ℤ x → x ≤ℤ b → c ≤ℤ y → y ≤ℤ d → (a *ℤ c) ≤ℤ m → (a *ℤ d) ≤ℤ m → (b *ℤ c) ≤ℤ m → (b *ℤ d) ≤ℤ m → (x *ℤ y) ≤ℤ m
corner_high a b c d x y m h k p q ac ad bc bd = over_high a b x y m h k (side a ac ad) (side b bc bd)
  where
    side : (e : ℤ) → (e *ℤ c) ≤ℤ m → (e *ℤ d) ≤ℤ m → (e *ℤ y) ≤ℤ m
    side e f g = rw (*ℤ_comm e y) (over_high c d y e m p q (rw (*ℤ_comm c e) f) (rw (*ℤ_comm d e) g))

pub plus_times : (a b y : ℤ) → (a +ℤ b) *ℤ y ≡ (a *ℤ y) +ℤ (b *ℤ y)
plus_times a b (pos n) = omega (arith, ints, ap (λ (x : ℕ). x * n) (sum_is_lem a b))
plus_times a b (negsuc n) = omega (arith, ints, ap (λ (x : ℕ). x * suc n) (sum_is_lem a b))
