-- Products of intervals.
use Rattle.std.proofs.Common.{◌≡◌, ℤ, pos, ◌*ℤ◌, ◌≤ℤ◌, Ok, refl, arith}
use Rattle.std.proofs.lemmas.Int.{ints, clamps}
use Rattle.c_values.specs.declared.int_type.IntType.{IntType}
use Rattle.c_values.specs.declared.operator.Op.TheVariants as ops
use Rattle.c_values.specs.declared.operator.Undefined.TheVariants as undefined
use Rattle.intervals.specs.declared.interval.Interval.{Interval}
use Rattle.intervals.specs.Intervals.{Fits, Has, Holds, from_to}
use Rattle.std.proofs.Math.IntN.{*ℤ_comm}
use Rattle.int_laws.proofs.Products.{mul_mono, corner_low, corner_high}
use Rattle.c_values.specs.Operators.{applied}
use Rattle.intervals.specs.Forms.{binary, corners, least_four, greatest_four}
use Rattle.intervals.proofs.Fits.{fit_has, fit_in}
use Rattle.intervals.proofs.Joins.{IsOrdered}

-- the least of four is below each of them, and the greatest above
pub record Least (m p q r s : ℤ) : Type 0 where
  pub first : m ≤ℤ p
  pub second : m ≤ℤ q
  pub third : m ≤ℤ r
  pub fourth : m ≤ℤ s

pub record Greatest (m p q r s : ℤ) : Type 0 where
  pub first : p ≤ℤ m
  pub second : q ≤ℤ m
  pub third : r ≤ℤ m
  pub fourth : s ≤ℤ m

pub least_is : (p q r s : ℤ) → Least (least_four p q r s) p q r s
least_is p q r s = record { first = omega (arith, ints, clamps); second = omega (arith, ints, clamps); third = omega (arith, ints, clamps); fourth = omega (arith, ints, clamps) }

pub greatest_is : (p q r s : ℤ) → Greatest (greatest_four p q r s) p q r s
greatest_is p q r s = record { first = omega (arith, ints, clamps); second = omega (arith, ints, clamps); third = omega (arith, ints, clamps); fourth = omega (arith, ints, clamps) }

pub product_corners : (a c : Interval) (x y : ℤ) → Has a x → Has c y → Has (corners (λ x y. x *ℤ y) a c) (x *ℤ y)
product_corners a c x y h k =
    let p = a.low *ℤ c.low in
    let q = a.low *ℤ c.high in
    let r = a.high *ℤ c.low in
    let s = a.high *ℤ c.high in
    let l = least_is p q r s in
    let g = greatest_is p q r s in
    record {
      low = corner_low a.low a.high c.low c.high x y (least_four p q r s) h.low h.high k.low k.high l.first l.second l.third l.fourth;
      high = corner_high a.low a.high c.low c.high x y (greatest_four p q r s) h.low h.high k.low k.high g.first g.second g.third g.fourth;
    }

pub products_have : (t : IntType) (a c : Interval) (x y r : ℤ) → Has a x → Has c y → applied ops.Mul t x y ≡ Ok r → Holds (binary ops.Mul t a c) r
products_have t a c x y r h k e =
    let b = product_corners a c x y h k in
    let i = corners (λ x y. x *ℤ y) a c in
    fit_has undefined.Overflow t i.low i.high (x *ℤ y) r b.low b.high e

-- of intervals at or above 0 the product of the lower ends is least, and that of the upper ends greatest
pub unsigned_corners : (a c : Interval) → pos 0 ≤ℤ a.low → a.low ≤ℤ a.high → pos 0 ≤ℤ c.low → c.low ≤ℤ c.high →
    corners (λ x y. x *ℤ y) a c ≡ from_to (a.low *ℤ c.low) (a.high *ℤ c.high)
unsigned_corners a c p q r s =
    let p' : pos 0 ≤ℤ a.high = omega (arith, ints, p, q) in
    let r' : pos 0 ≤ℤ c.high = omega (arith, ints, r, s) in
    let i = mul_mono a.low a.high c.low q r in
    let j = mul_mono a.low a.high c.high q r' in
    let k : (a.low *ℤ c.low) ≤ℤ (a.low *ℤ c.high) = rw (*ℤ_comm a.low c.low, *ℤ_comm a.low c.high) (mul_mono c.low c.high a.low s p) in
    let l : (a.high *ℤ c.low) ≤ℤ (a.high *ℤ c.high) = rw (*ℤ_comm a.high c.low, *ℤ_comm a.high c.high) (mul_mono c.low c.high a.high s p') in
    let low : least_four (a.low *ℤ c.low) (a.low *ℤ c.high) (a.high *ℤ c.low) (a.high *ℤ c.high) ≡ a.low *ℤ c.low = omega (arith, ints, clamps, i, j, k, l) in
    let high : greatest_four (a.low *ℤ c.low) (a.low *ℤ c.high) (a.high *ℤ c.low) (a.high *ℤ c.high) ≡ a.high *ℤ c.high = omega (arith, ints, clamps, i, j, k, l) in
    rw (low, high) refl

pub corners_ordered : (f : ℤ → ℤ → ℤ) (a c : Interval) → IsOrdered (corners f a c)
corners_ordered f a c = record {
  order = omega (
    arith,
    ints,
    (least_is (f a.low c.low) (f a.low c.high) (f a.high c.low) (f a.high c.high)).first,
    (greatest_is (f a.low c.low) (f a.low c.high) (f a.high c.low) (f a.high c.high)).first,
  );
}

pub products_in : (t : IntType) (a c : Interval) → Fits t (binary ops.Mul t a c)
products_in t a c =
    let i = corners (λ x y. x *ℤ y) a c in
    fit_in t i.low i.high (corners_ordered (λ x y. x *ℤ y) a c).order
