-- Remainders of intervals.
use Rattle.std.proofs.Common.{◌≡◌, ◌<◌, ◌≤◌, inl, inr, Bool, true, false, ℤ, pos, ◌-ℤ◌, ◌≤ℤ◌, int_lt, unsigned_abs, Some, None, Ok, Err, refl, sym, ◌∙◌, subst, arith}
use Rattle.std.specs.Prelude.{if◌then◌else◌, ◌&&◌}
use Rattle.std.specs.Ordering.{int_eq}
use Rattle.std.specs.Int.{int_min, int_max}
use Rattle.std.specs.Int.RustNames.{int_div, int_rem}
use Rattle.std.proofs.lemmas.Int.{ints, clamps, by_lt_z}
use Rattle.c_values.specs.declared.int_type.IntType.{IntType}
use Rattle.c_values.specs.declared.operator.Op.TheVariants as ops
use Rattle.c_values.specs.declared.operator.Undefined.TheVariants as undefined
use Rattle.c_values.specs.Types.{least, greatest, is_inside}
use Rattle.c_values.proofs.Ranges.{range}
use Rattle.c_values.proofs.Results.{ok_is}
use Rattle.intervals.specs.declared.interval.Interval.{Interval}
use Rattle.intervals.specs.Intervals.{Fits, Has, Holds, IsIn}
use Rattle.std.proofs.lemmas.Int.{int_max_is, int_min_is}
use Rattle.int_laws.proofs.Quotients.{rest_is, rest_small}
use Rattle.c_values.specs.Operators.{applied}
use Rattle.intervals.specs.Forms.{binary, farthest, is_only_zero, kept_or_wide, nearest, remainders, wide}
use Rattle.intervals.proofs.Fits.{lies_in, same_is}
use Rattle.intervals.proofs.QuotientLaws.{nonzero}

far : (c : Interval) (y : ℤ) → Has c y → pos (unsigned_abs y) ≤ℤ farthest c
far c y k = omega (arith, ints, clamps, k.low, k.high)

near : (c : Interval) (y : ℤ) → Has c y → int_eq y (pos 0) ≡ false → nearest c ≤ unsigned_abs y
near c y k e = by (int_lt (pos 0) c.low) (int_lt c.high (pos 0)) refl refl
  where
    by : (s t : Bool) → int_lt (pos 0) c.low ≡ s → int_lt c.high (pos 0) ≡ t → (if s then unsigned_abs c.low else (if t then unsigned_abs c.high else 1)) ≤ unsigned_abs y
    by true t f g = omega (arith, ints, f, k.low)
    by false true f g = omega (arith, ints, g, k.high)
    by false false f g = elim (nonzero y e) [ inl z ↦ omega (arith, ints, z) | inr z ↦ omega (arith, ints, z) ]

wide_has : (a c : Interval) (x y : ℤ) → Has a x → Has c y → int_eq y (pos 0) ≡ false → Has (wide a c) (int_rem x y)
wide_has a c x y h k e = record { low = low (int_lt a.low (pos 0)) refl; high = high (int_lt (pos 0) a.high) refl }
  where
    some : 0 < unsigned_abs y
    some = elim (nonzero y e) [ inl z ↦ omega (arith, ints, z) | inr z ↦ omega (arith, ints, z) ]

    low : (s : Bool) → int_lt a.low (pos 0) ≡ s → (if s then int_max a.low (pos 1 -ℤ farthest c) else pos 0) ≤ℤ int_rem x y
    low true f = by_lt_z x (pos 0)
        (λ z. let b = (rest_is x y some).down z in omega (arith, ints, int_max_is a.low (pos 1 -ℤ farthest c), b.1, b.2, h.low, far c y k))
        (λ z. let b = (rest_is x y some).up z in omega (arith, ints, int_max_is a.low (pos 1 -ℤ farthest c), b.0, f, far c y k, some))
    low false f = ((rest_is x y some).up (omega (arith, ints, f, h.low))).0

    high : (s : Bool) → int_lt (pos 0) a.high ≡ s → int_rem x y ≤ℤ (if s then int_min a.high (farthest c -ℤ pos 1) else pos 0)
    high true f = by_lt_z x (pos 0)
        (λ z. let b = (rest_is x y some).down z in omega (arith, ints, int_min_is a.high (farthest c -ℤ pos 1), b.0, f, far c y k, some))
        (λ z. let b = (rest_is x y some).up z in omega (arith, ints, int_min_is a.high (farthest c -ℤ pos 1), b.1, b.2, h.high, far c y k))
    high false f = by_lt_z x (pos 0)
        (λ z. ((rest_is x y some).down z).0)
        (λ z. let b = (rest_is x y some).up z in omega (arith, ints, b.1, h.high, f))

-- an interval with a number that is not 0 is not 0 alone
not_only_zero : (c : Interval) (y : ℤ) → Has c y → int_eq y (pos 0) ≡ false → is_only_zero c ≡ false
not_only_zero c y k e = by (int_eq c.low (pos 0)) (int_eq c.high (pos 0)) refl refl
  where
    by : (s t : Bool) → int_eq c.low (pos 0) ≡ s → int_eq c.high (pos 0) ≡ t → (s && t) ≡ false
    by false t f g = refl
    by true false f g = refl
    by true true f g = absurd (elim (nonzero y e) [
      | inl z ↦ omega (arith, ints, z, same_is c.high (pos 0) g, k.high)
      | inr z ↦ omega (arith, ints, z, same_is c.low (pos 0) f, k.low)
    ])

all_remainders : (a c : Interval) (x y : ℤ) → Has a x → Has c y → int_eq y (pos 0) ≡ false → Holds (remainders a c) (int_rem x y)
all_remainders a c x y h k e = rw (not_only_zero c y k e) (by (int_lt a.low (pos 0)) (int_lt a.high (pos (nearest c))) refl refl)
  where
    by : (s t : Bool) → int_lt a.low (pos 0) ≡ s → int_lt a.high (pos (nearest c)) ≡ t → Has (if s then wide a c else (if t then a else wide a c)) (int_rem x y)
    by true t f g = wide_has a c x y h k e
    by false false f g = wide_has a c x y h k e
    by false true f g = rw (rest_small x y (omega (arith, ints, f, h.low)) (omega (arith, ints, g, h.high, near c y k e))) h

pub remainders_have : (t : IntType) (a c : Interval) (x y r : ℤ) → Has a x → Has c y → applied ops.Rem t x y ≡ Ok r → Holds (binary ops.Rem t a c) r
remainders_have t a c x y r h k e = by (int_eq y (pos 0)) (is_inside t (int_div x y)) refl e
  where
    by : (s i : Bool) → int_eq y (pos 0) ≡ s → (if s then Err undefined.DivisionByZero else (if i then Ok (int_rem x y) else Err undefined.Overflow)) ≡ Ok r → Holds (remainders a c) r
    by true i f g = absurd (cc)
    by false false f g = absurd (cc)
    by false true f g = subst (Holds (remainders a c)) (ok_is (int_rem x y) r g) (all_remainders a c x y h k f)

-- an interval that is not 0 alone has a number that lies at least 1 from 0
far_from_zero : (c : Interval) → c.low ≤ℤ c.high → is_only_zero c ≡ false → pos 1 ≤ℤ farthest c
far_from_zero c o e = by_lt_z (farthest c) (pos 1) (λ z. absurd (
    let low : c.low ≡ pos 0 = omega (arith, ints, clamps, z, o) in
    let high : c.high ≡ pos 0 = omega (arith, ints, clamps, z, o) in
    let same : is_only_zero c ≡ true = rw (low, high) refl in
    clash (sym e ∙ same)))
    (λ z. z)
  where
    clash : ◌≡◌ {A = Bool} false true → ⊥
    clash q = absurd (cc)

wide_in : (t : IntType) (a c : Interval) → IsIn t a → pos 1 ≤ℤ farthest c → IsIn t (wide a c)
wide_in t a c h f = lies_in t (wide a c) (record { least = least_end (int_lt a.low (pos 0)) refl; order = under (int_lt a.low (pos 0)) (int_lt (pos 0) a.high) refl refl; greatest = greatest_end (int_lt (pos 0) a.high) refl })
  where
    least_end : (s : Bool) → int_lt a.low (pos 0) ≡ s → least t ≤ℤ (if s then int_max a.low (pos 1 -ℤ farthest c) else pos 0)
    least_end true e = omega (arith, ints, int_max_is a.low (pos 1 -ℤ farthest c), h.low.low)
    least_end false e = (range t).not_positive

    greatest_end : (s : Bool) → int_lt (pos 0) a.high ≡ s → (if s then int_min a.high (farthest c -ℤ pos 1) else pos 0) ≤ℤ greatest t
    greatest_end true e = omega (arith, ints, int_min_is a.high (farthest c -ℤ pos 1), h.high.high)
    greatest_end false e = (range t).not_negative

    under : (s u : Bool) → int_lt a.low (pos 0) ≡ s → int_lt (pos 0) a.high ≡ u →
        (if s then int_max a.low (pos 1 -ℤ farthest c) else pos 0) ≤ℤ (if u then int_min a.high (farthest c -ℤ pos 1) else pos 0)
    under true true e g = omega (arith, ints, int_max_is a.low (pos 1 -ℤ farthest c), int_min_is a.high (farthest c -ℤ pos 1), e, g, f)
    under true false e g = omega (arith, ints, int_max_is a.low (pos 1 -ℤ farthest c), e, f)
    under false true e g = omega (arith, ints, int_min_is a.high (farthest c -ℤ pos 1), g, f)
    under false false e g = omega (arith, ints)

pub remainders_in : (t : IntType) (a c : Interval) → IsIn t a → c.low ≤ℤ c.high → Fits t (binary ops.Rem t a c)
remainders_in t a c h o = by (is_only_zero c) refl
  where
    kept : pos 1 ≤ℤ farthest c → (s u : Bool) → IsIn t (if s then wide a c else (if u then a else wide a c))
    kept f true u = wide_in t a c h f
    kept f false true = h
    kept f false false = wide_in t a c h f

    by : (s : Bool) → is_only_zero c ≡ s → Fits t (if s then None else Some (kept_or_wide a c))
    by true e = tt
    by false e = kept (far_from_zero c o e) (int_lt a.low (pos 0)) (int_lt a.high (pos (nearest c)))
