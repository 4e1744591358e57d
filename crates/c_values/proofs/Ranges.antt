-- The ranges of the types: how large values are, and how many.
use Rattle.std.proofs.Common.{◌≡◌, ℕ, zero, suc, ◌+◌, ◌-◌, ◌^◌, ◌<◌, ◌≤◌, Bool, true, false, ℤ, pos, neg_ℤ, ◌+ℤ◌, ◌-ℤ◌, ◌≤ℤ◌, ◌<ℤ◌, int_lt, unsigned_abs, refl, arith}
use Rattle.std.specs.Prelude.{if◌then◌else◌}
use Rattle.std.proofs.Math.Nat.{pow-le-pow_right, two-pow-succ}
use Rattle.std.proofs.lemmas.Int.{ints}
use Rattle.std.proofs.lemmas.Nat.{pow_pos}
use Rattle.c_values.specs.declared.int_type.IntType.{IntType}
use Rattle.c_values.specs.declared.int_type.IntType.TheVariants as types
use Rattle.c_values.specs.Operators.{is_count}
use Rattle.c_values.specs.Types.{IsOf, greatest_of, is_signed, least_of, modulus, width}

pub width_is : (t : IntType) → (0 < width t) × (width t ≤ 64)
width_is types.Bool = (omega arith, omega arith)
width_is types.Char = (omega arith, omega arith)
width_is types.SChar = (omega arith, omega arith)
width_is types.UChar = (omega arith, omega arith)
width_is types.Short = (omega arith, omega arith)
width_is types.UShort = (omega arith, omega arith)
width_is types.Int = (omega arith, omega arith)
width_is types.UInt = (omega arith, omega arith)
width_is types.Long = (omega arith, omega arith)
width_is types.ULong = (omega arith, omega arith)
width_is types.LongLong = (omega arith, omega arith)
width_is types.ULongLong = (omega arith, omega arith)

pow_up : (i j : ℕ) → i ≤ j → 2 ^ i ≤ 2 ^ j
pow_up i j h = pow-le-pow_right (omega arith) h

pub pow_halves : (w : ℕ) → 0 < w → 2 ^ w ≡ 2 ^ (w - 1) + 2 ^ (w - 1)
pow_halves zero p = absurd (omega (arith, p))
pow_halves (suc w) p = let e : suc w - 1 ≡ w = omega arith in rw e (two-pow-succ w)

-- a range by its signedness and width
pub record IsRange (s : Bool) (w : ℕ) : Type 0 where
  pub low : neg_ℤ (pos (2 ^ 63)) ≤ℤ least_of s w
  pub not_positive : least_of s w ≤ℤ pos 0
  pub not_negative : pos 0 ≤ℤ greatest_of s w
  pub high : greatest_of s w ≤ℤ pos (2 ^ 64 - 1)
  pub size : greatest_of s w ≡ (least_of s w +ℤ pos (2 ^ w)) -ℤ pos 1
  pub signed_high : s ≡ true → greatest_of s w ≤ℤ pos (2 ^ 63 - 1)
  pub unsigned_low : s ≡ false → least_of s w ≡ pos 0
  pub unsigned_high : s ≡ false → greatest_of s w ≡ pos (2 ^ w - 1)

range_of : (s : Bool) (w : ℕ) → 0 < w → w ≤ 64 → IsRange s w
range_of true w p h =
    let half = pow_up (w - 1) 63 (omega (arith, h)) in
    record {
      low = omega (arith, ints, half);
      not_positive = omega (arith, ints);
      not_negative = omega (arith, ints);
      high = omega (arith, ints, half);
      size = omega (arith, ints, pow_halves w p, pow_pos (w - 1));
      signed_high = λ _. omega (arith, ints, half);
      unsigned_low = λ e. absurd (cc);
      unsigned_high = λ e. absurd (cc);
    }
range_of false w p h = record {
  low = omega (arith, ints);
  not_positive = omega (arith, ints);
  not_negative = omega (arith, ints);
  high = omega (arith, ints, pow_up w 64 h);
  size = omega (arith, ints, pow_pos w);
  signed_high = λ e. absurd (cc);
  unsigned_low = λ _. refl;
  unsigned_high = λ _. refl;
}

pub range : (t : IntType) → IsRange (is_signed t) (width t)
range t = range_of (is_signed t) (width t) (width_is t).0 (width_is t).1

pub modulus_small : (t : IntType) → (0 < modulus t) × (modulus t ≤ 2 ^ 64)
modulus_small t = (pow_pos (width t), pow_up (width t) 64 (width_is t).1)

pub of_small : (t : IntType) (z : ℤ) → IsOf t z → unsigned_abs z < 2 ^ 64
of_small t z h = omega (arith, ints, (range t).low, (range t).high, h.low, h.high)

pub of_signed : (t : IntType) (z : ℤ) → is_signed t ≡ true → IsOf t z → unsigned_abs z ≤ 2 ^ 63
of_signed t z s h = omega (arith, ints, (range t).low, (range t).signed_high s, h.low, h.high)

pub of_unsigned : (t : IntType) (z : ℤ) → is_signed t ≡ false → IsOf t z → pos 0 ≤ℤ z
of_unsigned t z s h = omega (arith, ints, (range t).unsigned_low s, h.low)

pub zero_is_of : (t : IntType) → IsOf t (pos 0)
zero_is_of t = record { low = (range t).not_positive; high = (range t).not_negative }

-- what the test of a shift count tells
pub count_below : (t : IntType) (b : ℤ) → is_count t b ≡ true → (pos 0 ≤ℤ b) × (b <ℤ pos (width t))
count_below t b e = by (int_lt b (pos 0)) refl e
  where
    by : (s : Bool) → int_lt b (pos 0) ≡ s → (if s then false else int_lt b (pos (width t))) ≡ true → (pos 0 ≤ℤ b) × (b <ℤ pos (width t))
    by true f g = absurd (cc)
    by false f g = (omega (arith, ints, f), omega (arith, ints, g))

pub count_range : (t : IntType) (b : ℤ) → is_count t b ≡ true → (pos 0 ≤ℤ b) × (unsigned_abs b < 64)
count_range t b e = let c = count_below t b e in (c.0, omega (arith, ints, c.0, c.1, (width_is t).1))
