-- Quotients of intervals.
use Rattle.std.proofs.Common.{◌≡◌, zero, suc, ◌⊎◌, inl, inr, Bool, true, false, ℤ, pos, negsuc, neg_ℤ, ◌≤ℤ◌, ◌<ℤ◌, int_lt, Option, Some, None, Ok, Err, refl, arith}
use Rattle.std.specs.Prelude.{if◌then◌else◌}
use Rattle.std.specs.Ordering.{int_eq}
use Rattle.std.specs.Int.{int_min, int_max}
use Rattle.std.specs.Int.RustNames.{int_div}
use Rattle.std.proofs.lemmas.Int.{ints, clamps}
use Rattle.c_values.specs.declared.int_type.IntType.{IntType}
use Rattle.c_values.specs.declared.operator.Op.TheVariants as ops
use Rattle.c_values.specs.declared.operator.Undefined.TheVariants as undefined
use Rattle.intervals.specs.declared.interval.Interval.{Interval}
use Rattle.intervals.specs.Intervals.{Fits, Has, Holds, from_to, mapped, span}
use Rattle.int_laws.proofs.Quotients.{quot_above, quot_below}
use Rattle.c_values.specs.Operators.{applied, fitted}
use Rattle.intervals.specs.Forms.{above, below, binary, corners, fit_option, greatest_four, least_four, quotients}
use Rattle.intervals.proofs.Fits.{fit_has, fit_in}
use Rattle.intervals.proofs.Joins.{AllOrdered, join_left, join_ordered, join_right}
use Rattle.intervals.proofs.ProductLaws.{corners_ordered, greatest_is, least_is}

-- a quotient whose divisor keeps its sign
quotient_corners : (a c : Interval) (x y : ℤ) → Has a x → Has c y → (pos 0 <ℤ c.low) ⊎ (c.high <ℤ pos 0) → Has (corners int_div a c) (int_div x y)
quotient_corners a c x y h k z =
    let p = int_div a.low c.low in
    let q = int_div a.low c.high in
    let r = int_div a.high c.low in
    let s = int_div a.high c.high in
    let l = least_is p q r s in
    let g = greatest_is p q r s in
    let m = least_four p q r s in
    let n = greatest_four p q r s in
    elim z [
      | inl w ↦ record {
        low = (quot_above a.low a.high c.low c.high x y h.low h.high k.low k.high w m).0 l.first l.second;
        high = (quot_above a.low a.high c.low c.high x y h.low h.high k.low k.high w n).1 g.third g.fourth;
      }
      | inr w ↦ record {
        low = (quot_below a.low a.high c.low c.high x y h.low h.high k.low k.high w m).0 l.third l.fourth;
        high = (quot_below a.low a.high c.low c.high x y h.low h.high k.low k.high w n).1 g.first g.second;
      }
    ]

quotient_part : (a : Interval) (l u x y : ℤ) → Has a x → l ≤ℤ y → y ≤ℤ u → (pos 0 <ℤ l) ⊎ (u <ℤ pos 0) → Holds (mapped (corners int_div a) (span l u)) (int_div x y)
quotient_part a l u x y h p q z = by (int_lt u l) refl
  where
    by : (s : Bool) → int_lt u l ≡ s → Holds (mapped (corners int_div a) (if s then None else Some (from_to l u))) (int_div x y)
    by true e = absurd (omega (arith, ints, e, p, q))
    by false e = quotient_corners a (from_to l u) x y h (record { low = p; high = q }) z

pub nonzero : (y : ℤ) → int_eq y (pos 0) ≡ false → (pos 0 <ℤ y) ⊎ (y <ℤ pos 0)
nonzero (pos zero) e = absurd (cc)
nonzero (pos (suc n)) e = inl (omega (arith, ints))
nonzero (negsuc n) e = inr (omega (arith, ints))

all_quotients : (a c : Interval) (x y : ℤ) → Has a x → Has c y → int_eq y (pos 0) ≡ false → Holds (quotients a c) (int_div x y)
all_quotients a c x y h k e = elim (nonzero y e) [
  | inl z ↦ join_left (mapped (corners int_div a) (above c)) (mapped (corners int_div a) (below c)) (int_div x y)
      (quotient_part a (int_max c.low (pos 1)) c.high x y h (omega (arith, ints, clamps, k.low, z)) k.high (inl (omega (arith, ints, clamps))))
  | inr z ↦ join_right (mapped (corners int_div a) (above c)) (mapped (corners int_div a) (below c)) (int_div x y)
      (quotient_part a c.low (int_min c.high (neg_ℤ (pos 1))) x y h k.low (omega (arith, ints, clamps, k.high, z)) (inr (omega (arith, ints, clamps))))
]

option_has : (t : IntType) (o : Option Interval) (z r : ℤ) → Holds o z → fitted undefined.Overflow t z ≡ Ok r → Holds (fit_option t o) r
option_has t None z r h e = absurd h
option_has t (Some i) z r h e = fit_has undefined.Overflow t i.low i.high z r h.low h.high e

pub quotients_have : (t : IntType) (a c : Interval) (x y r : ℤ) → Has a x → Has c y → applied ops.Div t x y ≡ Ok r → Holds (binary ops.Div t a c) r
quotients_have t a c x y r h k e = by (int_eq y (pos 0)) refl e
  where
    by : (s : Bool) → int_eq y (pos 0) ≡ s → (if s then Err undefined.DivisionByZero else fitted undefined.Overflow t (int_div x y)) ≡ Ok r → Holds (binary ops.Div t a c) r
    by true f g = absurd (cc)
    by false f g = option_has t (quotients a c) (int_div x y) r (all_quotients a c x y h k f) g

mapped_ordered : (f : ℤ → ℤ → ℤ) (a : Interval) (o : Option Interval) → AllOrdered (mapped (corners f a) o)
mapped_ordered f a None = tt
mapped_ordered f a (Some c) = corners_ordered f a c

option_in : (t : IntType) (o : Option Interval) → AllOrdered o → Fits t (fit_option t o)
option_in t None h = tt
option_in t (Some i) h = fit_in t i.low i.high h.order

pub quotients_in : (t : IntType) (a c : Interval) → Fits t (binary ops.Div t a c)
quotients_in t a c = option_in t (quotients a c) (join_ordered (mapped (corners int_div a) (above c)) (mapped (corners int_div a) (below c))
    (mapped_ordered int_div a (above c)) (mapped_ordered int_div a (below c)))
