-- What fit leaves has each result, and lies in the type.
use Rattle.std.proofs.Common.{◌≡◌, ℕ, ◌-◌, ◌<◌, ◌⊎◌, Bool, true, false, ℤ, pos, ◌≤ℤ◌, ◌<ℤ◌, int_lt, Option, Some, None, Ok, Err, refl, arith}
use Rattle.std.specs.Prelude.{if◌then◌else◌, ⊤}
use Rattle.std.specs.Ordering.{int_eq}
use Rattle.std.specs.Int.{int_div_euclid, int_rem_euclid, int_min, int_max}
use Rattle.std.proofs.lemmas.Int.{ints, clamps}
use Rattle.c_values.specs.declared.int_type.IntType.{IntType}
use Rattle.c_values.specs.declared.operator.Undefined.{Undefined}
use Rattle.c_values.specs.Types.{IsOf, is_signed, least, greatest, modulus, is_between}
use Rattle.c_values.proofs.Ranges.{modulus_small, range}
use Rattle.c_values.proofs.Results.{between_is, ok_is}
use Rattle.intervals.specs.declared.interval.Interval.{Interval}
use Rattle.intervals.specs.Intervals.{Fits, Has, Holds, IsIn, from_to, range_of, span}
use Rattle.int_laws.proofs.Euclid.{euclid_rest, rest_between}
use Rattle.c_values.specs.Operators.{fitted, fitted_with}
use Rattle.intervals.specs.Forms.{fit, fit_with}

pub same_is : (x y : ℤ) → int_eq x y ≡ true → x ≡ y
same_is x y e = grind (arith, ints)

pub eq_true : (x y : ℤ) → x ≡ y → int_eq x y ≡ true
eq_true x y e = grind (arith, ints)

pub eq_false : (x y : ℤ) → (x <ℤ y) ⊎ (y <ℤ x) → int_eq x y ≡ false
eq_false x y h = grind (arith, ints)

pub span_has : (l u z : ℤ) → l ≤ℤ z → z ≤ℤ u → Holds (span l u) z
span_has l u z h k = by (int_lt u l) refl
  where
    by : (s : Bool) → int_lt u l ≡ s → Holds (if s then None else Some (from_to l u)) z
    by true e = absurd (omega (arith, ints, e, h, k))
    by false e = record { low = h; high = k }

has_with : (s : Bool) (low high : ℤ) (m : ℕ) → 0 < m → (s ≡ false → (low ≡ pos 0) × (high ≡ pos (m - 1))) →
    (why : Undefined) (l u z r : ℤ) → l ≤ℤ z → z ≤ℤ u → fitted_with why s low high m z ≡ Ok r → Holds (fit_with s low high m l u) r
has_with true low high m p ends why l u z r h k e = by (is_between low high z) refl e
  where
    by : (t : Bool) → is_between low high z ≡ t → (if t then Ok z else Err why) ≡ Ok r → Holds (span (int_max l low) (int_min u high)) r
    by true f g =
        let b = between_is low high z f in
        let q = ok_is z r g in
        span_has (int_max l low) (int_min u high) r (omega (arith, ints, clamps, b.0, b.1, q, h, k)) (omega (arith, ints, clamps, b.0, b.1, q, h, k))
    by false f g = absurd (cc)
has_with false low high m p ends why l u z r h k e = by (int_eq (int_div_euclid l (pos m)) (int_div_euclid u (pos m))) refl
  where
    q : int_rem_euclid z (pos m) ≡ r
    q = ok_is (int_rem_euclid z (pos m)) r e

    by : (t : Bool) → int_eq (int_div_euclid l (pos m)) (int_div_euclid u (pos m)) ≡ t →
        Has (if t then from_to (int_rem_euclid l (pos m)) (int_rem_euclid u (pos m)) else from_to low high) r
    by true f =
        let b = rest_between l u z m p h k (same_is (int_div_euclid l (pos m)) (int_div_euclid u (pos m)) f) in
        record { low = omega (arith, ints, b.0, q); high = omega (arith, ints, b.1, q) }
    by false f =
        let b = euclid_rest z m p in
        let d = ends refl in
        record { low = omega (arith, ints, b.0, q, d.0); high = omega (arith, ints, b.1, q, d.1, p) }

pub fit_has : (why : Undefined) (t : IntType) (l u z r : ℤ) → l ≤ℤ z → z ≤ℤ u → fitted why t z ≡ Ok r → Holds (fit t l u) r
fit_has why t l u z r h k e = has_with (is_signed t) (least t) (greatest t) (modulus t) (modulus_small t).0
    (λ s. ((range t).unsigned_low s, (range t).unsigned_high s)) why l u z r h k e

-- from low to high, and not empty
pub record Lies (low high : ℤ) (i : Interval) : Type 0 where
  pub least : low ≤ℤ i.low
  pub order : i.low ≤ℤ i.high
  pub greatest : i.high ≤ℤ high

abbrev Lie : ℤ → ℤ → Option Interval → Type 0
Lie low high None = ⊤
Lie low high (Some i) = Lies low high i

lie_with : (s : Bool) (low high : ℤ) (m : ℕ) → 0 < m → low ≤ℤ high → (s ≡ false → (low ≡ pos 0) × (high ≡ pos (m - 1))) → (l u : ℤ) → l ≤ℤ u → Lie low high (fit_with s low high m l u)
lie_with true low high m p o ends l u h = by (int_lt (int_min u high) (int_max l low)) refl
  where
    by : (t : Bool) → int_lt (int_min u high) (int_max l low) ≡ t → Lie low high (if t then None else Some (from_to (int_max l low) (int_min u high)))
    by true e = tt
    by false e = record { least = omega (arith, ints, clamps); order = omega (arith, ints, e); greatest = omega (arith, ints, clamps) }
lie_with false low high m p o ends l u h = by (int_eq (int_div_euclid l (pos m)) (int_div_euclid u (pos m))) refl
  where
    by : (t : Bool) → int_eq (int_div_euclid l (pos m)) (int_div_euclid u (pos m)) ≡ t →
        Lies low high (if t then from_to (int_rem_euclid l (pos m)) (int_rem_euclid u (pos m)) else from_to low high)
    by true f =
        let b = rest_between l u u m p h (omega (arith, ints)) (same_is (int_div_euclid l (pos m)) (int_div_euclid u (pos m)) f) in
        let c = euclid_rest l m p in
        let v = euclid_rest u m p in
        let d = ends refl in
        record { least = omega (arith, ints, c.0, d.0); order = b.0; greatest = omega (arith, ints, v.1, d.1, p) }
    by false f = record { least = omega (arith, ints); order = o; greatest = omega (arith, ints) }

pub lies_in : (t : IntType) (i : Interval) → Lies (least t) (greatest t) i → IsIn t i
lies_in t i h = record {
  low = record { low = h.least; high = omega (arith, ints, h.order, h.greatest) };
  order = h.order;
  high = record { low = omega (arith, ints, h.least, h.order); high = h.greatest };
}

pub fit_in : (t : IntType) (l u : ℤ) → l ≤ℤ u → Fits t (fit t l u)
fit_in t l u h = of (fit t l u) (lie_with (is_signed t) (least t) (greatest t) (modulus t) (modulus_small t).0 (omega (arith, ints, (range t).not_positive, (range t).not_negative))
    (λ s. ((range t).unsigned_low s, (range t).unsigned_high s)) l u h)
  where
    of : (o : Option Interval) → Lie (least t) (greatest t) o → Fits t o
    of None q = tt
    of (Some i) q = lies_in t i q

pub range_in : (t : IntType) → IsIn t (range_of t)
range_in t = lies_in t (range_of t) (record { least = omega (arith, ints); order = omega (arith, ints, (range t).not_positive, (range t).not_negative); greatest = omega (arith, ints) })

pub range_has : (t : IntType) (z : ℤ) → IsOf t z → Has (range_of t) z
range_has t z h = record { low = h.low; high = h.high }

pub has_is_of : (t : IntType) (i : Interval) (z : ℤ) → IsIn t i → Has i z → IsOf t z
has_is_of t i z h k = record { low = omega (arith, ints, h.low.low, k.low); high = omega (arith, ints, h.high.high, k.high) }
