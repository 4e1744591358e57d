-- Conversions of intervals.
use Rattle.std.proofs.Common.{◌≡◌, ◌⊎◌, inl, inr, Bool, true, false, cond, ℤ, pos, ◌-ℤ◌, ◌≤ℤ◌, ◌<ℤ◌, int_lt, refl, arith}
use Rattle.std.specs.Prelude.{if◌then◌else◌, ◌&&◌}
use Rattle.std.specs.Ordering.{int_eq}
use Rattle.std.proofs.lemmas.Int.{ints}
use Rattle.c_values.specs.declared.int_type.IntType.{IntType}
use Rattle.c_values.specs.declared.int_type.IntType.TheVariants as types
use Rattle.c_values.specs.Types.{least, modulus}
use Rattle.c_values.proofs.Ranges.{modulus_small}
use Rattle.intervals.specs.declared.interval.Interval.{Interval}
use Rattle.intervals.specs.Intervals.{Has, IsIn, from_to, range_of}
use Rattle.int_laws.proofs.Euclid.{rest_between}
use Rattle.c_values.specs.Conversions.{converted, wrapped}
use Rattle.c_values.proofs.Conversions.{wrapped_is_of}
use Rattle.intervals.specs.Forms.{cast, is_only_zero, only, truths, turns, wraps}
use Rattle.intervals.proofs.Fits.{eq_false, lies_in, range_has, range_in, same_is}

wraps_have : (t : IntType) (a : Interval) (z : ℤ) → Has a z → Has (wraps t a) (wrapped t z)
wraps_have t a z h = by (int_eq (turns t a.low) (turns t a.high)) refl
  where
    by : (s : Bool) → int_eq (turns t a.low) (turns t a.high) ≡ s → Has (if s then from_to (wrapped t a.low) (wrapped t a.high) else range_of t) (wrapped t z)
    by true e =
        let b = rest_between (a.low -ℤ least t) (a.high -ℤ least t) (z -ℤ least t) (modulus t) (modulus_small t).0
        (omega (arith, ints, h.low)) (omega (arith, ints, h.high)) (same_is (turns t a.low) (turns t a.high) e) in
        record { low = omega (arith, ints, b.0); high = omega (arith, ints, b.1) }
    by false e = range_has t (wrapped t z) (wrapped_is_of t z)

wraps_in : (t : IntType) (a : Interval) → a.low ≤ℤ a.high → IsIn t (wraps t a)
wraps_in t a o = by (int_eq (turns t a.low) (turns t a.high)) refl
  where
    by : (s : Bool) → int_eq (turns t a.low) (turns t a.high) ≡ s → IsIn t (if s then from_to (wrapped t a.low) (wrapped t a.high) else range_of t)
    by true e =
        let b = rest_between (a.low -ℤ least t) (a.high -ℤ least t) (a.high -ℤ least t) (modulus t) (modulus_small t).0
        (omega (arith, ints, o)) (omega (arith, ints)) (same_is (turns t a.low) (turns t a.high) e) in
        record { low = wrapped_is_of t a.low; order = omega (arith, ints, b.0); high = wrapped_is_of t a.high }
    by false e = range_in t

truth_between : (s : Bool) → Has (from_to (pos 0) (pos 1)) (cond s (pos 0) (pos 1))
truth_between true = record { low = omega (arith, ints); high = omega (arith, ints) }
truth_between false = record { low = omega (arith, ints); high = omega (arith, ints) }

zero_truth : (z : ℤ) → z ≡ pos 0 → Has (only (pos 0)) (cond (int_eq z (pos 0)) (pos 0) (pos 1))
zero_truth z e = rw e (record { low = omega (arith, ints); high = omega (arith, ints) })

one_truth : (z : ℤ) → (z <ℤ pos 0) ⊎ (pos 0 <ℤ z) → Has (only (pos 1)) (cond (int_eq z (pos 0)) (pos 0) (pos 1))
one_truth z h = rw (eq_false z (pos 0) h) (record { low = omega (arith, ints); high = omega (arith, ints) })

truths_have : (a : Interval) (z : ℤ) → Has a z → Has (truths a) (cond (int_eq z (pos 0)) (pos 0) (pos 1))
truths_have a z h = by (int_eq a.low (pos 0)) (int_eq a.high (pos 0)) refl refl
  where
    sign : (u v : Bool) → int_lt (pos 0) a.low ≡ u → int_lt a.high (pos 0) ≡ v →
        Has (if u then only (pos 1) else (if v then only (pos 1) else from_to (pos 0) (pos 1))) (cond (int_eq z (pos 0)) (pos 0) (pos 1))
    sign true v e g = one_truth z (inr (omega (arith, ints, e, h.low)))
    sign false true e g = one_truth z (inl (omega (arith, ints, g, h.high)))
    sign false false e g = truth_between (int_eq z (pos 0))

    by : (s t : Bool) → int_eq a.low (pos 0) ≡ s → int_eq a.high (pos 0) ≡ t →
        Has (if s && t then only (pos 0) else (if int_lt (pos 0) a.low then only (pos 1) else (if int_lt a.high (pos 0) then only (pos 1) else from_to (pos 0) (pos 1)))) (cond (int_eq z (pos 0)) (pos 0) (pos 1))
    by true true e g = zero_truth z (omega (arith, ints, h.low, h.high, same_is a.low (pos 0) e, same_is a.high (pos 0) g))
    by true false e g = sign (int_lt (pos 0) a.low) (int_lt a.high (pos 0)) refl refl
    by false t e g = sign (int_lt (pos 0) a.low) (int_lt a.high (pos 0)) refl refl

truths_in : (a : Interval) → IsIn types.Bool (truths a)
truths_in a = by (is_only_zero a) (int_lt (pos 0) a.low) (int_lt a.high (pos 0))
  where
    part : (l u : ℤ) → pos 0 ≤ℤ l → l ≤ℤ u → u ≤ℤ pos 1 → IsIn types.Bool (from_to l u)
    part l u h o k = lies_in types.Bool (from_to l u) (record { least = h; order = o; greatest = k })

    by : (s u v : Bool) → IsIn types.Bool (if s then only (pos 0) else (if u then only (pos 1) else (if v then only (pos 1) else from_to (pos 0) (pos 1))))
    by true u v = part (pos 0) (pos 0) (omega (arith, ints)) (omega (arith, ints)) (omega (arith, ints))
    by false true v = part (pos 1) (pos 1) (omega (arith, ints)) (omega (arith, ints)) (omega (arith, ints))
    by false false true = part (pos 1) (pos 1) (omega (arith, ints)) (omega (arith, ints)) (omega (arith, ints))
    by false false false = part (pos 0) (pos 1) (omega (arith, ints)) (omega (arith, ints)) (omega (arith, ints))

pub cast_has : (t : IntType) (a : Interval) (z : ℤ) → Has a z → Has (cast t a) (converted t z)
cast_has types.Bool a z h = truths_have a z h
cast_has t a z h = wraps_have t a z h

pub cast_in : (t : IntType) (a : Interval) → a.low ≤ℤ a.high → IsIn t (cast t a)
cast_in types.Bool a o = truths_in a
cast_in t a o = wraps_in t a o
