-- The integer types: their widths and ranges (ISO/IEC 9899:1999, 6.2.5 and 6.2.6.2), in two's complement.
use Rattle.std.specs.Prelude.{ℕ, ◌-◌, ◌^◌, Bool, true, false, cond, ℤ, pos, neg_ℤ, ◌≤ℤ◌, int_lt}
use Rattle.c_values.specs.declared.int_type.IntType.{IntType}
use Rattle.c_values.specs.declared.int_type.IntType.TheVariants as types

-- how many bits hold a value, with its sign bit; of _Bool one, since its values are 0 and 1
abbrev pub width : IntType → ℕ
width types.Bool = 1
width types.Char = 8
width types.SChar = 8
width types.UChar = 8
width types.Short = 16
width types.UShort = 16
width types.Int = 32
width types.UInt = 32
width types.Long = 32
width types.ULong = 32
width types.LongLong = 64
width types.ULongLong = 64

abbrev pub is_signed : IntType → Bool
is_signed types.Bool = false
is_signed types.Char = true
is_signed types.SChar = true
is_signed types.UChar = false
is_signed types.Short = true
is_signed types.UShort = false
is_signed types.Int = true
is_signed types.UInt = false
is_signed types.Long = true
is_signed types.ULong = false
is_signed types.LongLong = true
is_signed types.ULongLong = false

abbrev pub least_of : Bool → ℕ → ℤ
least_of true w = neg_ℤ (pos (2 ^ (w - 1)))
least_of false w = pos 0

abbrev pub greatest_of : Bool → ℕ → ℤ
greatest_of true w = pos (2 ^ (w - 1) - 1)
greatest_of false w = pos (2 ^ w - 1)

abbrev pub least : IntType → ℤ
least t = least_of (is_signed t) (width t)

abbrev pub greatest : IntType → ℤ
greatest t = greatest_of (is_signed t) (width t)

-- how many values the type has
abbrev pub modulus : IntType → ℕ
modulus t = 2 ^ width t

-- z is a value of the type
pub record IsOf (t : IntType) (z : ℤ) : Type 0 where
  pub low : least t ≤ℤ z
  pub high : z ≤ℤ greatest t

-- z lies from low to high
abbrev pub is_between : ℤ → ℤ → ℤ → Bool
is_between low high z = cond (int_lt z low) false (cond (int_lt high z) false true)

abbrev pub is_inside : IntType → ℤ → Bool
is_inside t z = is_between (least t) (greatest t) z
