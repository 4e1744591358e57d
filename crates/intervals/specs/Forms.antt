-- What an operator makes of intervals of operands.
use Rattle.std.specs.Prelude.{ℕ, ◌-◌, ◌^◌, Bool, true, false, if◌then◌else◌, ◌&&◌, ℤ, pos, neg_ℤ, ◌+ℤ◌, ◌-ℤ◌, ◌*ℤ◌, ◌≤ℤ◌, ◌<ℤ◌, int_lt, unsigned_abs, Option, Some, None}
use Rattle.std.specs.Int.{int_div_euclid, int_max, int_min, int_rem_euclid, leading_zeros, w128}
use Rattle.std.specs.Int.RustNames.{int_div}
use Rattle.std.specs.Ordering.{int_eq}
use Rattle.int_laws.specs.Bits.{z_and, z_or, z_xor}
use Rattle.c_values.specs.declared.int_type.IntType.{IntType}
use Rattle.c_values.specs.declared.int_type.IntType.TheVariants as types
use Rattle.c_values.specs.declared.operator.Op.{Op}
use Rattle.c_values.specs.declared.operator.Op.TheVariants as ops
use Rattle.c_values.specs.declared.operator.UnOp.{UnOp}
use Rattle.c_values.specs.declared.operator.UnOp.TheVariants as unary_ops
use Rattle.c_values.specs.Conversions.{wrapped}
use Rattle.c_values.specs.Operators.{complement, power}
use Rattle.c_values.specs.Types.{greatest, is_signed, least, modulus, width}
use Rattle.intervals.specs.declared.interval.Interval.{Interval}
use Rattle.intervals.specs.Intervals.{from_to, join_options, mapped, range_of, span}

-- What exact results from l to u leave in a type from low to high with m values: of a signed one the part inside it; of
-- an unsigned one the rests by m where both ends have one floor quotient, else the range.
abbrev pub fit_with : Bool → ℤ → ℤ → ℕ → ℤ → ℤ → Option Interval
fit_with true low high m l u = span (int_max l low) (int_min u high)
fit_with false low high m l u = Some (if int_eq (int_div_euclid l (pos m)) (int_div_euclid u (pos m))
    then from_to (int_rem_euclid l (pos m)) (int_rem_euclid u (pos m)) else from_to low high)

abbrev pub fit : IntType → ℤ → ℤ → Option Interval
fit t l u = fit_with (is_signed t) (least t) (greatest t) (modulus t) l u

abbrev pub fit_all : IntType → Interval → Option Interval
fit_all t i = fit t i.low i.high

abbrev pub fit_option : IntType → Option Interval → Option Interval
fit_option t None = None
fit_option t (Some i) = fit_all t i

abbrev pub least_four : ℤ → ℤ → ℤ → ℤ → ℤ
least_four p q r s = int_min (int_min p q) (int_min r s)

abbrev pub greatest_four : ℤ → ℤ → ℤ → ℤ → ℤ
greatest_four p q r s = int_max (int_max p q) (int_max r s)

-- the least and the greatest of an operator at the four corners
abbrev pub corners : (ℤ → ℤ → ℤ) → Interval → Interval → Interval
corners f a c = from_to (least_four (f a.low c.low) (f a.low c.high) (f a.high c.low) (f a.high c.high))
    (greatest_four (f a.low c.low) (f a.low c.high) (f a.high c.low) (f a.high c.high))

-- the parts above and below 0
abbrev pub above : Interval → Option Interval
above c = span (int_max c.low (pos 1)) c.high

abbrev pub below : Interval → Option Interval
below c = span c.low (int_min c.high (neg_ℤ (pos 1)))

abbrev pub quotients : Interval → Interval → Option Interval
quotients a c = join_options (mapped (corners int_div a) (above c)) (mapped (corners int_div a) (below c))

-- the least absolute value of a number in c that is not 0, and the greatest absolute value
abbrev pub nearest : Interval → ℕ
nearest c = if int_lt (pos 0) c.low then unsigned_abs c.low else (if int_lt c.high (pos 0) then unsigned_abs c.high else 1)

abbrev pub farthest : Interval → ℤ
farthest c = int_max (neg_ℤ c.low) c.high

-- the remainders of the sign of each number in a, below the greatest absolute value m
abbrev pub lower_end : ℤ → ℤ → ℤ
lower_end low m = if int_lt low (pos 0) then int_max low (pos 1 -ℤ m) else pos 0

abbrev pub upper_end : ℤ → ℤ → ℤ
upper_end high m = if int_lt (pos 0) high then int_min high (m -ℤ pos 1) else pos 0

abbrev pub wide : Interval → Interval → Interval
wide a c = from_to (lower_end a.low (farthest c)) (upper_end a.high (farthest c))

-- dividends from 0 to below each divisor are kept
abbrev pub kept_or_wide : Interval → Interval → Interval
kept_or_wide a c = if int_lt a.low (pos 0) then wide a c else (if int_lt a.high (pos (nearest c)) then a else wide a c)

abbrev pub is_only_zero : Interval → Bool
is_only_zero c = int_eq c.low (pos 0) && int_eq c.high (pos 0)

abbrev pub remainders : Interval → Interval → Option Interval
remainders a c = if is_only_zero c then None else Some (kept_or_wide a c)

-- the counts by which the type can be shifted, and of a signed type the values from 0
abbrev pub counts : IntType → Interval → Option Interval
counts t c = span (int_max c.low (pos 0)) (int_min c.high (pos (width t) -ℤ pos 1))

abbrev pub naturals_with : Bool → Interval → Option Interval
naturals_with true a = span (int_max a.low (pos 0)) a.high
naturals_with false a = Some a

abbrev pub left_all : IntType → Interval → Option Interval → Option Interval
left_all t c None = None
left_all t c (Some a) = fit t (a.low *ℤ pos (power c.low)) (a.high *ℤ pos (power c.high))

abbrev pub left_by : IntType → Option Interval → Option Interval → Option Interval
left_by t o None = None
left_by t o (Some c) = left_all t c o

-- counts from 0 to below 64, and values from 0 to below 2 ^ 64
pub record AreCounts (c : Interval) : Type 0 where
  pub low : pos 0 ≤ℤ c.low
  pub order : c.low ≤ℤ c.high
  pub high : c.high <ℤ pos 64

pub record AreNatural (a : Interval) : Type 0 where
  pub low : pos 0 ≤ℤ a.low
  pub order : a.low ≤ℤ a.high
  pub high : a.high <ℤ pos (2 ^ 64)

abbrev pub floor_by : ℤ → ℤ → ℤ
floor_by x y = int_div_euclid x (pos (power y))

abbrev pub right_by : Interval → Interval → Interval
right_by a c = from_to (int_min (floor_by a.low c.low) (floor_by a.low c.high)) (int_max (floor_by a.high c.low) (floor_by a.high c.high))

abbrev pub is_one : Interval → Bool
is_one a = int_eq a.low a.high

abbrev pub are_single : Interval → Interval → Bool
are_single a c = is_one a && is_one c

abbrev pub only : ℤ → Interval
only z = from_to z z

-- what a number from 0 has in common with another lies from 0 to it
abbrev pub and_parts : IntType → Interval → Interval → Interval
and_parts t a c = if int_lt a.low (pos 0) then (if int_lt c.low (pos 0) then range_of t else from_to (pos 0) c.high)
    else (if int_lt c.low (pos 0) then from_to (pos 0) a.high else from_to (pos 0) (int_min a.high c.high))

abbrev pub ands : IntType → Interval → Interval → Interval
ands t a c = if are_single a c then only (z_and a.low c.low) else and_parts t a c

-- the number whose binary digits are all ones, as many as n has
abbrev pub ones : ℕ → ℤ
ones n = pos (2 ^ (128 - leading_zeros w128 n) - 1)

abbrev pub are_naturals : Interval → Interval → Bool
are_naturals a c = if int_lt a.low (pos 0) then false else (if int_lt c.low (pos 0) then false else true)

abbrev pub or_parts : IntType → Interval → Interval → Interval
or_parts t a c = if are_naturals a c then from_to (int_max a.low c.low) (ones (unsigned_abs (int_max a.high c.high))) else range_of t

abbrev pub ors : IntType → Interval → Interval → Interval
ors t a c = if are_single a c then only (z_or a.low c.low) else or_parts t a c

abbrev pub xor_parts : IntType → Interval → Interval → Interval
xor_parts t a c = if are_naturals a c then from_to (pos 0) (ones (unsigned_abs (int_max a.high c.high))) else range_of t

abbrev pub xors : IntType → Interval → Interval → Interval
xors t a c = if are_single a c then only (z_xor a.low c.low) else xor_parts t a c

abbrev pub binary : Op → IntType → Interval → Interval → Option Interval
binary ops.Add t a c = fit t (a.low +ℤ c.low) (a.high +ℤ c.high)
binary ops.Sub t a c = fit t (a.low -ℤ c.high) (a.high -ℤ c.low)
binary ops.Mul t a c = fit_all t (corners (λ x y. x *ℤ y) a c)
binary ops.Div t a c = fit_option t (quotients a c)
binary ops.Rem t a c = remainders a c
binary ops.Shl t a c = left_by t (naturals_with (is_signed t) a) (counts t c)
binary ops.Shr t a c = mapped (right_by a) (counts t c)
binary ops.And t a c = Some (ands t a c)
binary ops.Or t a c = Some (ors t a c)
binary ops.Xor t a c = Some (xors t a c)

abbrev pub unary : UnOp → IntType → Interval → Option Interval
unary unary_ops.Neg t a = fit t (neg_ℤ a.high) (neg_ℤ a.low)
unary unary_ops.Not t a = Some (from_to (complement t a.high) (complement t a.low))

-- the whole turns of the type between a number and the value to which it wraps
abbrev pub turns : IntType → ℤ → ℤ
turns t z = int_div_euclid (z -ℤ least t) (pos (modulus t))

-- numbers that wrap by the same turns are shifted together
abbrev pub wraps : IntType → Interval → Interval
wraps t a = if int_eq (turns t a.low) (turns t a.high) then from_to (wrapped t a.low) (wrapped t a.high) else range_of t

abbrev pub truths : Interval → Interval
truths a = if is_only_zero a then only (pos 0)
    else (if int_lt (pos 0) a.low then only (pos 1) else (if int_lt a.high (pos 0) then only (pos 1) else from_to (pos 0) (pos 1)))

abbrev pub cast : IntType → Interval → Interval
cast types.Bool a = truths a
cast t a = wraps t a

-- the difference of two pointers to elements of a size, from the bounds of their offsets in bytes
abbrev pub pointer_difference : Interval → Interval → ℕ → Option Interval
pointer_difference a c size = fit types.Int (int_div (a.low -ℤ c.high) (pos size)) (int_div (a.high -ℤ c.low) (pos size))
