-- A result is a value of its type.
use Rattle.std.proofs.Common.{◌≡◌, ℕ, zero, suc, ◌-◌, ◌<◌, Bool, true, false, cond, ℤ, pos, negsuc, neg_ℤ, ◌+ℤ◌, ◌-ℤ◌, ◌*ℤ◌, ◌≤ℤ◌, int_lt, unsigned_abs, Result, Ok, Err, refl, subst, arith}
use Rattle.std.specs.Prelude.{if◌then◌else◌}
use Rattle.std.specs.Int.{int_div_euclid, int_rem_euclid}
use Rattle.std.specs.Int.RustNames.{int_div, int_rem}
use Rattle.std.specs.Ordering.{int_eq}
use Rattle.std.proofs.lemmas.Int.{ints, by_lt_z}
use Rattle.std.proofs.lemmas.Nat.{pow_pos}
use Rattle.int_laws.specs.Bits.{z_and, z_or, z_xor}
use Rattle.int_laws.proofs.BitRanges.{IsWide, and_left, or_up, wide_and, wide_or, wide_xor, xor_up}
use Rattle.int_laws.proofs.Euclid.{euclid_rest, quotient_down, quotient_up}
use Rattle.int_laws.proofs.Quotients.{rest_is}
use Rattle.c_values.specs.declared.int_type.IntType.{IntType}
use Rattle.c_values.specs.declared.operator.Op.{Op}
use Rattle.c_values.specs.declared.operator.Op.TheVariants as ops
use Rattle.c_values.specs.declared.operator.UnOp.{UnOp}
use Rattle.c_values.specs.declared.operator.UnOp.TheVariants as unary_ops
use Rattle.c_values.specs.declared.operator.Undefined.{Undefined}
use Rattle.c_values.specs.declared.operator.Undefined.TheVariants as undefined
use Rattle.c_values.specs.Operators.{applied, applied_unary, complement_with, fitted, fitted_with, is_count, is_shift, left_with, power}
use Rattle.c_values.specs.Types.{IsOf, greatest, greatest_of, is_between, is_inside, is_signed, least, least_of, modulus, width}
use Rattle.c_values.proofs.Ranges.{IsRange, modulus_small, range}

pub between_is : (low high z : ℤ) → is_between low high z ≡ true → (low ≤ℤ z) × (z ≤ℤ high)
between_is low high z e = by (int_lt z low) (int_lt high z) refl refl e
  where
    by : (s t : Bool) → int_lt z low ≡ s → int_lt high z ≡ t → cond s false (cond t false true) ≡ true → (low ≤ℤ z) × (z ≤ℤ high)
    by true t f g q = absurd (cc)
    by false true f g q = absurd (cc)
    by false false f g q = (omega (arith, ints, f), omega (arith, ints, g))

pub ok_is : {E : Type 0} (a b : ℤ) → ◌≡◌ {A = Result ℤ E} (Ok a) (Ok b) → a ≡ b
ok_is a b e = cc

fitted_between : (why : Undefined) (s : Bool) (low high : ℤ) (m : ℕ) (z v : ℤ) → 0 < m → (s ≡ false → (low ≡ pos 0) × (high ≡ pos (m - 1))) →
    fitted_with why s low high m z ≡ Ok v → (low ≤ℤ v) × (v ≤ℤ high)
fitted_between why true low high m z v p ends e = by (is_between low high z) refl e
  where
    by : (t : Bool) → is_between low high z ≡ t → (if t then Ok z else Err why) ≡ Ok v → (low ≤ℤ v) × (v ≤ℤ high)
    by true f g = subst (λ n. (low ≤ℤ n) × (n ≤ℤ high)) (ok_is z v g) (between_is low high z f)
    by false f g = absurd (cc)
fitted_between why false low high m z v p ends e =
    let q = ok_is (int_rem_euclid z (pos m)) v e in
    let b = euclid_rest z m p in
    let d = ends refl in
    (omega (arith, ints, q, b.0, d.0), omega (arith, ints, q, b.1, d.1, p))

pub fitted_is_of : (why : Undefined) (t : IntType) (z v : ℤ) → fitted why t z ≡ Ok v → IsOf t v
fitted_is_of why t z v e =
    let b = fitted_between why (is_signed t) (least t) (greatest t) (modulus t) z v (modulus_small t).0 (λ s. ((range t).unsigned_low s, (range t).unsigned_high s)) e in
    record { low = b.0; high = b.1 }

nonzero : (y : ℤ) → int_eq y (pos 0) ≡ false → 0 < unsigned_abs y
nonzero (pos zero) e = absurd (cc)
nonzero (pos (suc n)) e = omega (arith, ints)
nonzero (negsuc n) e = omega (arith, ints)

rest_is_of : (t : IntType) (x d : ℤ) → IsOf t x → 0 < unsigned_abs d → IsOf t (int_rem x d)
rest_is_of t x d h p = by_lt_z x (pos 0)
    (λ s. let b = (rest_is x d p).down s in record { low = omega (arith, ints, b.1, h.low); high = omega (arith, ints, b.0, (range t).not_negative) })
    (λ s. let b = (rest_is x d p).up s in record { low = omega (arith, ints, b.0, (range t).not_positive); high = omega (arith, ints, b.1, h.high) })

pub floor_is_of : (t : IntType) (x : ℤ) (m : ℕ) → IsOf t x → IsOf t (int_div_euclid x (pos m))
floor_is_of t x m h = by_lt_z x (pos 0)
    (λ s. let b = quotient_down x m s in record { low = omega (arith, ints, b.0, h.low); high = omega (arith, ints, b.1, (range t).not_negative) })
    (λ s. let b = quotient_up x m s in record { low = omega (arith, ints, b.0, (range t).not_positive); high = omega (arith, ints, b.1, h.high) })

remaining_is_of : (t : IntType) (a b v : ℤ) → IsOf t a → applied ops.Rem t a b ≡ Ok v → IsOf t v
remaining_is_of t a b v h e = by (int_eq b (pos 0)) (is_inside t (int_div a b)) refl e
  where
    by : (s i : Bool) → int_eq b (pos 0) ≡ s → (if s then Err undefined.DivisionByZero else (if i then Ok (int_rem a b) else Err undefined.Overflow)) ≡ Ok v → IsOf t v
    by true i f g = absurd (cc)
    by false false f g = absurd (cc)
    by false true f g = subst (IsOf t) (ok_is (int_rem a b) v g) (rest_is_of t a b h (nonzero b f))

divided_is_of : (t : IntType) (a b v : ℤ) → applied ops.Div t a b ≡ Ok v → IsOf t v
divided_is_of t a b v e = by (int_eq b (pos 0)) e
  where
    by : (s : Bool) → (if s then Err undefined.DivisionByZero else fitted undefined.Overflow t (int_div a b)) ≡ Ok v → IsOf t v
    by true g = absurd (cc)
    by false g = fitted_is_of undefined.Overflow t (int_div a b) v g

left_is_of : (s : Bool) (t : IntType) (a b v : ℤ) → left_with s t a b ≡ Ok v → IsOf t v
left_is_of true t a b v e = by (int_lt a (pos 0)) e
  where
    by : (s : Bool) → (if s then Err undefined.ShiftValue else fitted undefined.ShiftValue t (a *ℤ pos (power b))) ≡ Ok v → IsOf t v
    by true g = absurd (cc)
    by false g = fitted_is_of undefined.ShiftValue t (a *ℤ pos (power b)) v g
left_is_of false t a b v e = fitted_is_of undefined.ShiftValue t (a *ℤ pos (power b)) v e

shifted_left_is_of : (t : IntType) (a b v : ℤ) → applied ops.Shl t a b ≡ Ok v → IsOf t v
shifted_left_is_of t a b v e = by (is_count t b) e
  where
    by : (s : Bool) → (if s then left_with (is_signed t) t a b else Err undefined.ShiftCount) ≡ Ok v → IsOf t v
    by true g = left_is_of (is_signed t) t a b v g
    by false g = absurd (cc)

shifted_right_is_of : (t : IntType) (a b v : ℤ) → IsOf t a → applied ops.Shr t a b ≡ Ok v → IsOf t v
shifted_right_is_of t a b v h e = by (is_count t b) e
  where
    by : (s : Bool) → (if s then Ok (int_div_euclid a (pos (power b))) else Err undefined.ShiftCount) ≡ Ok v → IsOf t v
    by true g = subst (IsOf t) (ok_is (int_div_euclid a (pos (power b))) v g) (floor_is_of t a (power b) h)
    by false g = absurd (cc)

-- an operator on bits that keeps to each width and to the numbers from 0 keeps to each type
bits_between : (f : ℤ → ℤ → ℤ) → ((k : ℕ) (x y : ℤ) → IsWide k x → IsWide k y → IsWide k (f x y)) → ((x y : ℤ) → pos 0 ≤ℤ x → pos 0 ≤ℤ y → pos 0 ≤ℤ f x y) →
    (s : Bool) (w : ℕ) (x y : ℤ) → least_of s w ≤ℤ x → x ≤ℤ greatest_of s w → least_of s w ≤ℤ y → y ≤ℤ greatest_of s w → (least_of s w ≤ℤ f x y) × (f x y ≤ℤ greatest_of s w)
bits_between f wide up true w x y a b c d =
    let r = wide (w - 1) x y (record { low = a; high = omega (arith, ints, b, pow_pos (w - 1)) }) (record { low = c; high = omega (arith, ints, d, pow_pos (w - 1)) }) in
    (r.low, omega (arith, ints, r.high))
bits_between f wide up false w x y a b c d =
    let r = wide w x y (record { low = omega (arith, ints, a); high = omega (arith, ints, b, pow_pos w) }) (record { low = omega (arith, ints, c); high = omega (arith, ints, d, pow_pos w) }) in
    (up x y a c, omega (arith, ints, r.high))

bits_is_of : (f : ℤ → ℤ → ℤ) → ((k : ℕ) (x y : ℤ) → IsWide k x → IsWide k y → IsWide k (f x y)) → ((x y : ℤ) → pos 0 ≤ℤ x → pos 0 ≤ℤ y → pos 0 ≤ℤ f x y) →
    (t : IntType) (x y : ℤ) → IsOf t x → IsOf t y → IsOf t (f x y)
bits_is_of f wide up t x y h g =
    let b = bits_between f wide up (is_signed t) (width t) x y h.low h.high g.low g.high in
    record { low = b.0; high = b.1 }

pub and_is_of : (t : IntType) (x y : ℤ) → IsOf t x → IsOf t y → IsOf t (z_and x y)
and_is_of t x y h g = bits_is_of z_and wide_and (λ a b p q. (and_left a b p).0) t x y h g

pub or_is_of : (t : IntType) (x y : ℤ) → IsOf t x → IsOf t y → IsOf t (z_or x y)
or_is_of t x y h g = bits_is_of z_or wide_or (λ a b p q. let u = (or_up a b p q).0 in omega (arith, ints, p, u)) t x y h g

pub xor_is_of : (t : IntType) (x y : ℤ) → IsOf t x → IsOf t y → IsOf t (z_xor x y)
xor_is_of t x y h g = bits_is_of z_xor wide_xor xor_up t x y h g

-- stated of a result, as the code has it
pub applied_is_of : (op : Op) (t : IntType) (a b v : ℤ) → IsOf t a → (is_shift op ≡ false → IsOf t b) → applied op t a b ≡ Ok v → IsOf t v
applied_is_of ops.Add t a b v h g e = fitted_is_of undefined.Overflow t (a +ℤ b) v e
applied_is_of ops.Sub t a b v h g e = fitted_is_of undefined.Overflow t (a -ℤ b) v e
applied_is_of ops.Mul t a b v h g e = fitted_is_of undefined.Overflow t (a *ℤ b) v e
applied_is_of ops.Div t a b v h g e = divided_is_of t a b v e
applied_is_of ops.Rem t a b v h g e = remaining_is_of t a b v h e
applied_is_of ops.Shl t a b v h g e = shifted_left_is_of t a b v e
applied_is_of ops.Shr t a b v h g e = shifted_right_is_of t a b v h e
applied_is_of ops.And t a b v h g e = subst (IsOf t) (ok_is (z_and a b) v e) (and_is_of t a b h (g refl))
applied_is_of ops.Or t a b v h g e = subst (IsOf t) (ok_is (z_or a b) v e) (or_is_of t a b h (g refl))
applied_is_of ops.Xor t a b v h g e = subst (IsOf t) (ok_is (z_xor a b) v e) (xor_is_of t a b h (g refl))

complement_between : (s : Bool) (w : ℕ) (a : ℤ) → IsRange s w → least_of s w ≤ℤ a → a ≤ℤ greatest_of s w →
    (least_of s w ≤ℤ complement_with s (greatest_of s w) a) × (complement_with s (greatest_of s w) a ≤ℤ greatest_of s w)
complement_between true w a r h g = (omega (arith, ints, h, g, pow_pos (w - 1)), omega (arith, ints, h, g, pow_pos (w - 1)))
complement_between false w a r h g = (omega (arith, ints, h, g), omega (arith, ints, h, g))

pub unary_is_of : (op : UnOp) (t : IntType) (a v : ℤ) → IsOf t a → applied_unary op t a ≡ Ok v → IsOf t v
unary_is_of unary_ops.Neg t a v h e = fitted_is_of undefined.Overflow t (neg_ℤ a) v e
unary_is_of unary_ops.Not t a v h e =
    let b = complement_between (is_signed t) (width t) a (range t) h.low h.high in
    subst (IsOf t) (ok_is (complement_with (is_signed t) (greatest t) a) v e) (record { low = b.0; high = b.1 })
