-- Conversions of integers (ISO/IEC 9899:1999, 6.3.1.2 and 6.3.1.3).
use Rattle.std.specs.Prelude.{◌≡◌, cond, ℤ, pos, ◌+ℤ◌, ◌-ℤ◌, ◌*ℤ◌}
use Rattle.std.specs.Int.{int_rem_euclid}
use Rattle.std.specs.Ordering.{int_eq}
use Rattle.c_values.specs.declared.int_type.IntType.{IntType}
use Rattle.c_values.specs.declared.int_type.IntType.TheVariants as types
use Rattle.c_values.specs.Types.{least, modulus}

-- the value of the type from which z differs by a multiple of the modulus
abbrev pub wrapped : IntType → ℤ → ℤ
wrapped t z = least t +ℤ int_rem_euclid (z -ℤ least t) (pos (modulus t))

-- _Bool takes every number but 0 to 1, each other type wraps
abbrev pub converted : IntType → ℤ → ℤ
converted types.Bool z = cond (int_eq z (pos 0)) (pos 0) (pos 1)
converted t z = wrapped t z

-- x and y differ by a multiple of the modulus
pub record IsCongruent (t : IntType) (x y : ℤ) : Type 0 where
  pub turns : ℤ
  pub differ : x ≡ (turns *ℤ pos (modulus t)) +ℤ y
