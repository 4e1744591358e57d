-- Bit operators on intervals.
use Rattle.std.proofs.Common.{◌≡◌, ℕ, ◌-◌, ◌^◌, ◌<◌, Bool, true, false, ℤ, pos, ◌≤ℤ◌, int_lt, unsigned_abs, refl, arith}
use Rattle.std.specs.Prelude.{if◌then◌else◌, ◌&&◌}
use Rattle.std.specs.Int.{int_min, int_max}
use Rattle.std.proofs.lemmas.Int.{ints, clamps}
use Rattle.c_values.specs.declared.int_type.IntType.{IntType}
use Rattle.c_values.specs.Types.{IsOf, is_signed, greatest, greatest_of, width}
use Rattle.c_values.proofs.Ranges.{of_small, range, width_is}
use Rattle.intervals.specs.declared.interval.Interval.{Interval}
use Rattle.intervals.specs.Intervals.{Has, IsIn, from_to, range_of}
use Rattle.int_laws.specs.Bits.{z_and, z_or, z_xor}
use Rattle.int_laws.proofs.BitRanges.{IsWide, and_left, and_right, or_up, wide_or, wide_xor, xor_up}
use Rattle.std.specs.Int.{leading_zeros, w128}
use Rattle.c_values.proofs.Results.{and_is_of, or_is_of, xor_is_of}
use Rattle.intervals.specs.Forms.{and_parts, ands, are_single, is_one, ones, only, or_parts, ors, xor_parts, xors}
use Rattle.intervals.proofs.Fits.{has_is_of, lies_in, range_has, range_in, same_is}
use Rattle.intervals.proofs.Ones.{digits_are, few_digits}
use Rattle.std.proofs.lemmas.Nat.{pow_pos}

-- an operator on two numbers, where one case is left beside that of two intervals with one number each
single_or : (f : ℤ → ℤ → ℤ) (a c parts : Interval) (x y : ℤ) → Has a x → Has c y → Has parts (f x y) → Has (if are_single a c then only (f a.low c.low) else parts) (f x y)
single_or f a c parts x y h k p = by (is_one a) (is_one c) refl refl
  where
    by : (s t : Bool) → is_one a ≡ s → is_one c ≡ t → Has (if s && t then only (f a.low c.low) else parts) (f x y)
    by false t e g = p
    by true false e g = p
    by true true e g =
        let m = same_is a.low a.high e in
        let n = same_is c.low c.high g in
        let u : x ≡ a.low = omega (arith, ints, h.low, h.high, m) in
        let v : y ≡ c.low = omega (arith, ints, k.low, k.high, n) in
        rw (u, v) (record { low = omega (arith, ints); high = omega (arith, ints) })

single_in : (t : IntType) (f : ℤ → ℤ → ℤ) (a c parts : Interval) → IsOf t (f a.low c.low) → IsIn t parts → IsIn t (if are_single a c then only (f a.low c.low) else parts)
single_in t f a c parts h p = by (are_single a c)
  where
    by : (s : Bool) → IsIn t (if s then only (f a.low c.low) else parts)
    by true = record { low = h; order = omega (arith, ints); high = h }
    by false = p

and_parts_have : (t : IntType) (a c : Interval) (x y : ℤ) → Has a x → Has c y → IsOf t (z_and x y) → Has (and_parts t a c) (z_and x y)
and_parts_have t a c x y h k i = by (int_lt a.low (pos 0)) (int_lt c.low (pos 0)) refl refl
  where
    by : (s u : Bool) → int_lt a.low (pos 0) ≡ s → int_lt c.low (pos 0) ≡ u →
        Has (if s then (if u then range_of t else from_to (pos 0) c.high) else (if u then from_to (pos 0) a.high else from_to (pos 0) (int_min a.high c.high))) (z_and x y)
    by true true e g = range_has t (z_and x y) i
    by true false e g = let r = and_right x y (omega (arith, ints, g, k.low)) in record { low = r.0; high = omega (arith, ints, r.1, k.high) }
    by false true e g = let l = and_left x y (omega (arith, ints, e, h.low)) in record { low = l.0; high = omega (arith, ints, l.1, h.high) }
    by false false e g =
        let l = and_left x y (omega (arith, ints, e, h.low)) in
        let r = and_right x y (omega (arith, ints, g, k.low)) in
        record { low = l.0; high = omega (arith, ints, clamps, l.1, r.1, h.high, k.high) }

natural_in : (t : IntType) (z : ℤ) → pos 0 ≤ℤ z → z ≤ℤ greatest t → IsIn t (from_to (pos 0) z)
natural_in t z h k = lies_in t (from_to (pos 0) z) (record { least = (range t).not_positive; order = h; greatest = k })

and_parts_in : (t : IntType) (a c : Interval) → IsIn t a → IsIn t c → IsIn t (and_parts t a c)
and_parts_in t a c h k = by (int_lt a.low (pos 0)) (int_lt c.low (pos 0)) refl refl
  where
    by : (s u : Bool) → int_lt a.low (pos 0) ≡ s → int_lt c.low (pos 0) ≡ u →
        IsIn t (if s then (if u then range_of t else from_to (pos 0) c.high) else (if u then from_to (pos 0) a.high else from_to (pos 0) (int_min a.high c.high)))
    by true true e g = range_in t
    by true false e g = natural_in t c.high (omega (arith, ints, g, k.order)) k.high.high
    by false true e g = natural_in t a.high (omega (arith, ints, e, h.order)) h.high.high
    by false false e g = natural_in t (int_min a.high c.high) (omega (arith, ints, clamps, e, g, h.order, k.order)) (omega (arith, ints, clamps, h.high.high))

-- a number from 0 to z lies below the power that follows ones
under_ones : (x z : ℤ) → pos 0 ≤ℤ x → x ≤ℤ z → unsigned_abs z < 2 ^ 64 → IsWide (128 - leading_zeros w128 (unsigned_abs z)) x
under_ones x z h k s = record { low = omega (arith, ints, h); high = omega (arith, ints, h, k, (digits_are (unsigned_abs z) s).below) }

up_to_ones : (r z : ℤ) → IsWide (128 - leading_zeros w128 (unsigned_abs z)) r → r ≤ℤ ones (unsigned_abs z)
up_to_ones r z h = omega (arith, ints, h.high)

max_small : (t : IntType) (a c : Interval) → IsIn t a → IsIn t c → unsigned_abs (int_max a.high c.high) < 2 ^ 64
max_small t a c h k = omega (arith, ints, clamps, of_small t a.high h.high, of_small t c.high k.high)

ones_under : (s : Bool) (w : ℕ) (z : ℤ) → 0 < w → pos 0 ≤ℤ z → z ≤ℤ greatest_of s w → unsigned_abs z < 2 ^ 64 → ones (unsigned_abs z) ≤ℤ greatest_of s w
ones_under true w z p h k q = omega (arith, ints, few_digits (unsigned_abs z) (w - 1) q (omega (arith, ints, h, k, pow_pos (w - 1))))
ones_under false w z p h k q = omega (arith, ints, few_digits (unsigned_abs z) w q (omega (arith, ints, h, k, pow_pos w)))

-- what the ones of the greater upper end are
pub record AreOnes (t : IntType) (z : ℤ) : Type 0 where
  pub above : z ≤ℤ ones (unsigned_abs z)
  pub inside : ones (unsigned_abs z) ≤ℤ greatest t

ones_are : (t : IntType) (z : ℤ) → pos 0 ≤ℤ z → z ≤ℤ greatest t → unsigned_abs z < 2 ^ 64 → AreOnes t z
ones_are t z h k q = record {
  above = up_to_ones z z (under_ones z z h (omega (arith, ints)) q);
  inside = ones_under (is_signed t) (width t) z (width_is t).0 h k q;
}

or_parts_have : (t : IntType) (a c : Interval) (x y : ℤ) → IsIn t a → IsIn t c → Has a x → Has c y → IsOf t (z_or x y) → Has (or_parts t a c) (z_or x y)
or_parts_have t a c x y i j h k o = by (int_lt a.low (pos 0)) (int_lt c.low (pos 0)) refl refl
  where
    by : (s u : Bool) → int_lt a.low (pos 0) ≡ s → int_lt c.low (pos 0) ≡ u →
        Has (if (if s then false else (if u then false else true)) then from_to (int_max a.low c.low) (ones (unsigned_abs (int_max a.high c.high))) else range_of t) (z_or x y)
    by true u e g = range_has t (z_or x y) o
    by false true e g = range_has t (z_or x y) o
    by false false e g =
        let p : pos 0 ≤ℤ x = omega (arith, ints, e, h.low) in
        let q : pos 0 ≤ℤ y = omega (arith, ints, g, k.low) in
        let u = or_up x y p q in
        let s = max_small t a c i j in
        let w = wide_or (128 - leading_zeros w128 (unsigned_abs (int_max a.high c.high))) x y
        (under_ones x (int_max a.high c.high) p (omega (arith, ints, clamps, h.high)) s) (under_ones y (int_max a.high c.high) q (omega (arith, ints, clamps, k.high)) s) in
        record { low = omega (arith, ints, clamps, u.0, u.1, h.low, k.low); high = up_to_ones (z_or x y) (int_max a.high c.high) w }

or_parts_in : (t : IntType) (a c : Interval) → IsIn t a → IsIn t c → IsIn t (or_parts t a c)
or_parts_in t a c i j = by (int_lt a.low (pos 0)) (int_lt c.low (pos 0)) refl refl
  where
    by : (s u : Bool) → int_lt a.low (pos 0) ≡ s → int_lt c.low (pos 0) ≡ u →
        IsIn t (if (if s then false else (if u then false else true)) then from_to (int_max a.low c.low) (ones (unsigned_abs (int_max a.high c.high))) else range_of t)
    by true u e g = range_in t
    by false true e g = range_in t
    by false false e g =
        let r = ones_are t (int_max a.high c.high) (omega (arith, ints, clamps, e, i.order)) (omega (arith, ints, clamps, i.high.high, j.high.high)) (max_small t a c i j) in
        lies_in t (from_to (int_max a.low c.low) (ones (unsigned_abs (int_max a.high c.high)))) (record {
          least = omega (arith, ints, clamps, i.low.low);
          order = omega (arith, ints, clamps, i.order, j.order, r.above);
          greatest = r.inside;
        })

xor_parts_have : (t : IntType) (a c : Interval) (x y : ℤ) → IsIn t a → IsIn t c → Has a x → Has c y → IsOf t (z_xor x y) → Has (xor_parts t a c) (z_xor x y)
xor_parts_have t a c x y i j h k o = by (int_lt a.low (pos 0)) (int_lt c.low (pos 0)) refl refl
  where
    by : (s u : Bool) → int_lt a.low (pos 0) ≡ s → int_lt c.low (pos 0) ≡ u →
        Has (if (if s then false else (if u then false else true)) then from_to (pos 0) (ones (unsigned_abs (int_max a.high c.high))) else range_of t) (z_xor x y)
    by true u e g = range_has t (z_xor x y) o
    by false true e g = range_has t (z_xor x y) o
    by false false e g =
        let p : pos 0 ≤ℤ x = omega (arith, ints, e, h.low) in
        let q : pos 0 ≤ℤ y = omega (arith, ints, g, k.low) in
        let s = max_small t a c i j in
        let w = wide_xor (128 - leading_zeros w128 (unsigned_abs (int_max a.high c.high))) x y
        (under_ones x (int_max a.high c.high) p (omega (arith, ints, clamps, h.high)) s) (under_ones y (int_max a.high c.high) q (omega (arith, ints, clamps, k.high)) s) in
        record { low = xor_up x y p q; high = up_to_ones (z_xor x y) (int_max a.high c.high) w }

xor_parts_in : (t : IntType) (a c : Interval) → IsIn t a → IsIn t c → IsIn t (xor_parts t a c)
xor_parts_in t a c i j = by (int_lt a.low (pos 0)) (int_lt c.low (pos 0)) refl refl
  where
    by : (s u : Bool) → int_lt a.low (pos 0) ≡ s → int_lt c.low (pos 0) ≡ u →
        IsIn t (if (if s then false else (if u then false else true)) then from_to (pos 0) (ones (unsigned_abs (int_max a.high c.high))) else range_of t)
    by true u e g = range_in t
    by false true e g = range_in t
    by false false e g =
        let r = ones_are t (int_max a.high c.high) (omega (arith, ints, clamps, e, i.order)) (omega (arith, ints, clamps, i.high.high, j.high.high)) (max_small t a c i j) in
        natural_in t (ones (unsigned_abs (int_max a.high c.high))) (omega (arith, ints, clamps, e, i.order, r.above)) r.inside

pub ands_have : (t : IntType) (a c : Interval) (x y : ℤ) → IsIn t a → IsIn t c → Has a x → Has c y → Has (ands t a c) (z_and x y)
ands_have t a c x y i j h k = single_or z_and a c (and_parts t a c) x y h k (and_parts_have t a c x y h k (and_is_of t x y (has_is_of t a x i h) (has_is_of t c y j k)))

pub ors_have : (t : IntType) (a c : Interval) (x y : ℤ) → IsIn t a → IsIn t c → Has a x → Has c y → Has (ors t a c) (z_or x y)
ors_have t a c x y i j h k = single_or z_or a c (or_parts t a c) x y h k (or_parts_have t a c x y i j h k (or_is_of t x y (has_is_of t a x i h) (has_is_of t c y j k)))

pub xors_have : (t : IntType) (a c : Interval) (x y : ℤ) → IsIn t a → IsIn t c → Has a x → Has c y → Has (xors t a c) (z_xor x y)
xors_have t a c x y i j h k = single_or z_xor a c (xor_parts t a c) x y h k (xor_parts_have t a c x y i j h k (xor_is_of t x y (has_is_of t a x i h) (has_is_of t c y j k)))

pub ands_in : (t : IntType) (a c : Interval) → IsIn t a → IsIn t c → IsIn t (ands t a c)
ands_in t a c i j = single_in t z_and a c (and_parts t a c) (and_is_of t a.low c.low i.low j.low) (and_parts_in t a c i j)

pub ors_in : (t : IntType) (a c : Interval) → IsIn t a → IsIn t c → IsIn t (ors t a c)
ors_in t a c i j = single_in t z_or a c (or_parts t a c) (or_is_of t a.low c.low i.low j.low) (or_parts_in t a c i j)

pub xors_in : (t : IntType) (a c : Interval) → IsIn t a → IsIn t c → IsIn t (xors t a c)
xors_in t a c i j = single_in t z_xor a c (xor_parts t a c) (xor_is_of t a.low c.low i.low j.low) (xor_parts_in t a c i j)
