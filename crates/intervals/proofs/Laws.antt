-- Each form has every defined result, and lies in its type.
use Rattle.std.proofs.Common.{◌≡◌, Bool, true, false, ℤ, neg_ℤ, ◌+ℤ◌, ◌-ℤ◌, ◌≤ℤ◌, Ok, refl, subst, arith}
use Rattle.std.proofs.lemmas.Int.{ints}
use Rattle.c_values.specs.declared.int_type.IntType.{IntType}
use Rattle.c_values.specs.declared.operator.Op.{Op}
use Rattle.c_values.specs.declared.operator.Op.TheVariants as ops
use Rattle.c_values.specs.declared.operator.Undefined.TheVariants as undefined
use Rattle.c_values.specs.Types.{is_signed, greatest}
use Rattle.c_values.proofs.Results.{ok_is}
use Rattle.intervals.specs.declared.interval.Interval.{Interval}
use Rattle.intervals.specs.Intervals.{Fits, Has, Holds, IsIn, from_to}
use Rattle.c_values.specs.declared.operator.UnOp.{UnOp}
use Rattle.c_values.specs.declared.operator.UnOp.TheVariants as unary_ops
use Rattle.c_values.specs.Operators.{applied, applied_unary, complement, complement_with, is_shift}
use Rattle.c_values.proofs.Results.{unary_is_of}
use Rattle.int_laws.specs.Bits.{z_and, z_or, z_xor}
use Rattle.intervals.specs.Forms.{ands, binary, ors, unary, xors}
use Rattle.intervals.proofs.BitLaws.{ands_have, ands_in, ors_have, ors_in, xors_have, xors_in}
use Rattle.intervals.proofs.Fits.{fit_has, fit_in}
use Rattle.intervals.proofs.ProductLaws.{products_have, products_in}
use Rattle.intervals.proofs.QuotientLaws.{quotients_have, quotients_in}
use Rattle.intervals.proofs.RemainderLaws.{remainders_have, remainders_in}
use Rattle.intervals.proofs.ShiftLaws.{lefts_have, lefts_in, rights_have, rights_in}

pub binary_has : (op : Op) (t : IntType) (a c : Interval) (x y r : ℤ) → IsIn t a → (is_shift op ≡ false → IsIn t c) → Has a x → Has c y →
    applied op t x y ≡ Ok r → Holds (binary op t a c) r
binary_has ops.Add t a c x y r i j h k e = fit_has undefined.Overflow t (a.low +ℤ c.low) (a.high +ℤ c.high) (x +ℤ y) r (omega (arith, ints, h.low, k.low)) (omega (arith, ints, h.high, k.high)) e
binary_has ops.Sub t a c x y r i j h k e = fit_has undefined.Overflow t (a.low -ℤ c.high) (a.high -ℤ c.low) (x -ℤ y) r (omega (arith, ints, h.low, k.high)) (omega (arith, ints, h.high, k.low)) e
binary_has ops.Mul t a c x y r i j h k e = products_have t a c x y r h k e
binary_has ops.Div t a c x y r i j h k e = quotients_have t a c x y r h k e
binary_has ops.Rem t a c x y r i j h k e = remainders_have t a c x y r h k e
binary_has ops.Shl t a c x y r i j h k e = lefts_have t a c x y r i h k e
binary_has ops.Shr t a c x y r i j h k e = rights_have t a c x y r h k e
binary_has ops.And t a c x y r i j h k e = subst (Has (ands t a c)) (ok_is (z_and x y) r e) (ands_have t a c x y i (j refl) h k)
binary_has ops.Or t a c x y r i j h k e = subst (Has (ors t a c)) (ok_is (z_or x y) r e) (ors_have t a c x y i (j refl) h k)
binary_has ops.Xor t a c x y r i j h k e = subst (Has (xors t a c)) (ok_is (z_xor x y) r e) (xors_have t a c x y i (j refl) h k)

pub binary_in : (op : Op) (t : IntType) (a c : Interval) → IsIn t a → (is_shift op ≡ false → IsIn t c) → Fits t (binary op t a c)
binary_in ops.Add t a c i j = fit_in t (a.low +ℤ c.low) (a.high +ℤ c.high) (omega (arith, ints, i.order, (j refl).order))
binary_in ops.Sub t a c i j = fit_in t (a.low -ℤ c.high) (a.high -ℤ c.low) (omega (arith, ints, i.order, (j refl).order))
binary_in ops.Mul t a c i j = products_in t a c
binary_in ops.Div t a c i j = quotients_in t a c
binary_in ops.Rem t a c i j = remainders_in t a c i (j refl).order
binary_in ops.Shl t a c i j = lefts_in t a c i
binary_in ops.Shr t a c i j = rights_in t a c i
binary_in ops.And t a c i j = ands_in t a c i (j refl)
binary_in ops.Or t a c i j = ors_in t a c i (j refl)
binary_in ops.Xor t a c i j = xors_in t a c i (j refl)

-- the complement falls as the number grows
complement_down : (s : Bool) (high x y : ℤ) → x ≤ℤ y → complement_with s high y ≤ℤ complement_with s high x
complement_down true high x y h = omega (arith, ints, h)
complement_down false high x y h = omega (arith, ints, h)

pub unary_has : (op : UnOp) (t : IntType) (a : Interval) (x r : ℤ) → Has a x → applied_unary op t x ≡ Ok r → Holds (unary op t a) r
unary_has unary_ops.Neg t a x r h e = fit_has undefined.Overflow t (neg_ℤ a.high) (neg_ℤ a.low) (neg_ℤ x) r (omega (arith, ints, h.high)) (omega (arith, ints, h.low)) e
unary_has unary_ops.Not t a x r h e = subst (Has (from_to (complement t a.high) (complement t a.low))) (ok_is (complement t x) r e)
    (record { low = complement_down (is_signed t) (greatest t) x a.high h.high; high = complement_down (is_signed t) (greatest t) a.low x h.low })

pub unary_in : (op : UnOp) (t : IntType) (a : Interval) → IsIn t a → Fits t (unary op t a)
unary_in unary_ops.Neg t a i = fit_in t (neg_ℤ a.high) (neg_ℤ a.low) (omega (arith, ints, i.order))
unary_in unary_ops.Not t a i = record {
  low = unary_is_of unary_ops.Not t a.high (complement t a.high) i.high refl;
  order = complement_down (is_signed t) (greatest t) a.low a.high i.order;
  high = unary_is_of unary_ops.Not t a.low (complement t a.low) i.low refl;
}
