-- The results of the operators over all integers, and where the type leaves them undefined (ISO/IEC 9899:1999).
use Rattle.std.specs.Prelude.{ℕ, ◌^◌, Bool, true, false, if◌then◌else◌, ℤ, pos, neg_ℤ, ◌+ℤ◌, ◌-ℤ◌, ◌*ℤ◌, int_lt, unsigned_abs, Result, Ok, Err}
use Rattle.std.specs.Int.{int_div_euclid, int_rem_euclid}
use Rattle.std.specs.Int.RustNames.{int_div, int_rem}
use Rattle.std.specs.Ordering.{int_eq}
use Rattle.int_laws.specs.Bits.{z_and, z_or, z_xor}
use Rattle.c_values.specs.declared.int_type.IntType.{IntType}
use Rattle.c_values.specs.declared.operator.Op.{Op}
use Rattle.c_values.specs.declared.operator.Op.TheVariants as ops
use Rattle.c_values.specs.declared.operator.UnOp.{UnOp}
use Rattle.c_values.specs.declared.operator.UnOp.TheVariants as unary_ops
use Rattle.c_values.specs.declared.operator.Undefined.{Undefined}
use Rattle.c_values.specs.declared.operator.Undefined.TheVariants as undefined
use Rattle.c_values.specs.Types.{width, is_signed, least, greatest, modulus, is_between, is_inside}

-- An exact result as a result of the type: a signed one is to be a value of it, else the operator is undefined (6.5);
-- an unsigned one is taken modulo one more than the greatest value (6.2.5).
abbrev pub fitted_with : Undefined → Bool → ℤ → ℤ → ℕ → ℤ → Result ℤ Undefined
fitted_with why true low high m z = if is_between low high z then Ok z else Err why
fitted_with why false low high m z = Ok (int_rem_euclid z (pos m))

abbrev pub fitted : Undefined → IntType → ℤ → Result ℤ Undefined
fitted why t z = fitted_with why (is_signed t) (least t) (greatest t) (modulus t) z

abbrev pub is_shift : Op → Bool
is_shift ops.Shl = true
is_shift ops.Shr = true
is_shift op = false

-- a shift count is to be from 0 to below the width (6.5.7)
abbrev pub is_count : IntType → ℤ → Bool
is_count t b = if int_lt b (pos 0) then false else int_lt b (pos (width t))

-- the numeral 2 to the power b, for b from 0
abbrev pub power : ℤ → ℕ
power b = 2 ^ unsigned_abs b

-- 6.5.5: by 0 undefined; the quotient is cut towards zero, and is to be a value of the type for the remainder too
abbrev pub divided : IntType → ℤ → ℤ → Result ℤ Undefined
divided t a b = if int_eq b (pos 0) then Err undefined.DivisionByZero else fitted undefined.Overflow t (int_div a b)

abbrev pub remaining : IntType → ℤ → ℤ → Result ℤ Undefined
remaining t a b = if int_eq b (pos 0) then Err undefined.DivisionByZero
    else (if is_inside t (int_div a b) then Ok (int_rem a b) else Err undefined.Overflow)

-- 6.5.7: a signed value is not to be negative, and its product with the power is to be a value of the type
abbrev pub left_with : Bool → IntType → ℤ → ℤ → Result ℤ Undefined
left_with true t a b = if int_lt a (pos 0) then Err undefined.ShiftValue else fitted undefined.ShiftValue t (a *ℤ pos (power b))
left_with false t a b = fitted undefined.ShiftValue t (a *ℤ pos (power b))

abbrev pub shifted_left : IntType → ℤ → ℤ → Result ℤ Undefined
shifted_left t a b = if is_count t b then left_with (is_signed t) t a b else Err undefined.ShiftCount

-- 6.5.7: the floor of the quotient by the power, for a negative value too, as of a machine that copies the sign bit
abbrev pub shifted_right : IntType → ℤ → ℤ → Result ℤ Undefined
shifted_right t a b = if is_count t b then Ok (int_div_euclid a (pos (power b))) else Err undefined.ShiftCount

-- 6.5.5 to 6.5.7 and 6.5.10 to 6.5.12
abbrev pub applied : Op → IntType → ℤ → ℤ → Result ℤ Undefined
applied ops.Add t a b = fitted undefined.Overflow t (a +ℤ b)
applied ops.Sub t a b = fitted undefined.Overflow t (a -ℤ b)
applied ops.Mul t a b = fitted undefined.Overflow t (a *ℤ b)
applied ops.Div t a b = divided t a b
applied ops.Rem t a b = remaining t a b
applied ops.Shl t a b = shifted_left t a b
applied ops.Shr t a b = shifted_right t a b
applied ops.And t a b = Ok (z_and a b)
applied ops.Or t a b = Ok (z_or a b)
applied ops.Xor t a b = Ok (z_xor a b)

-- each bit of the type the other way round (6.5.3.3)
abbrev pub complement_with : Bool → ℤ → ℤ → ℤ
complement_with true high a = neg_ℤ a -ℤ pos 1
complement_with false high a = high -ℤ a

abbrev pub complement : IntType → ℤ → ℤ
complement t a = complement_with (is_signed t) (greatest t) a

-- 6.5.3.3
abbrev pub applied_unary : UnOp → IntType → ℤ → Result ℤ Undefined
applied_unary unary_ops.Neg t a = fitted undefined.Overflow t (neg_ℤ a)
applied_unary unary_ops.Not t a = Ok (complement t a)
