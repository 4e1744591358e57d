-- Shifts of intervals.
use Rattle.std.proofs.Common.{◌≡◌, ℕ, ◌<◌, ◌≤◌, Bool, true, false, ℤ, pos, ◌-ℤ◌, ◌*ℤ◌, ◌≤ℤ◌, ◌<ℤ◌, int_lt, unsigned_abs, Option, Some, None, Ok, Err, refl, subst, arith}
use Rattle.std.specs.Prelude.{if◌then◌else◌}
use Rattle.std.specs.Int.{int_min, int_max}
use Rattle.std.proofs.lemmas.Int.{ints, clamps, by_lt_z}
use Rattle.c_values.specs.declared.int_type.IntType.{IntType}
use Rattle.c_values.specs.declared.operator.Op.TheVariants as ops
use Rattle.c_values.specs.declared.operator.Undefined.TheVariants as undefined
use Rattle.c_values.specs.Types.{is_signed, width}
use Rattle.c_values.proofs.Ranges.{of_small, of_unsigned, width_is}
use Rattle.c_values.proofs.Results.{ok_is}
use Rattle.intervals.specs.declared.interval.Interval.{Interval}
use Rattle.intervals.specs.Intervals.{Fits, Has, Holds, IsIn, from_to, mapped}
use Rattle.std.specs.Prelude.{IfSome}
use Rattle.std.proofs.Math.IntN.{*ℤ_comm}
use Rattle.std.proofs.Math.Nat.{pow-le-pow_right}
use Rattle.std.proofs.lemmas.Nat.{pow_pos}
use Rattle.int_laws.proofs.Euclid.{euclid_mono, quotient_less, quotient_more}
use Rattle.int_laws.proofs.Products.{mul_mono}
use Rattle.c_values.specs.Operators.{applied, fitted, is_count, left_with, power}
use Rattle.c_values.proofs.Ranges.{count_below}
use Rattle.c_values.proofs.Results.{floor_is_of}
use Rattle.intervals.specs.Forms.{AreCounts, AreNatural, binary, counts, floor_by, left_all, left_by, naturals_with, right_by}
use Rattle.intervals.proofs.Fits.{fit_has, fit_in, lies_in}

power_up : (c y : ℤ) → pos 0 ≤ℤ c → c ≤ℤ y → power c ≤ power y
power_up c y h k = pow-le-pow_right (omega arith) (omega (arith, ints, h, k))

power_pos : (c : ℤ) → 0 < power c
power_pos c = pow_pos (unsigned_abs c)

-- numbers from 0 grow by a greater power
scaled_up : (a x : ℤ) (m n : ℕ) → pos 0 ≤ℤ a → a ≤ℤ x → m ≤ n → (a *ℤ pos m) ≤ℤ (x *ℤ pos n)
scaled_up a x m n h k p =
    let u = mul_mono a x (pos m) k (omega (arith, ints)) in
    let v = mul_mono (pos m) (pos n) x (omega (arith, ints, p)) (omega (arith, ints, h, k)) in
    omega (arith, ints, u, v, *ℤ_comm (pos m) x, *ℤ_comm (pos n) x)

pub counts_are : (t : IntType) (b : Interval) → IfSome (counts t b) (λ c. AreCounts c)
counts_are t b = by (int_lt (int_min b.high (pos (width t) -ℤ pos 1)) (int_max b.low (pos 0))) refl
  where
    by : (s : Bool) → int_lt (int_min b.high (pos (width t) -ℤ pos 1)) (int_max b.low (pos 0)) ≡ s →
        IfSome (if s then None else Some (from_to (int_max b.low (pos 0)) (int_min b.high (pos (width t) -ℤ pos 1)))) (λ c. AreCounts c)
    by true e = tt
    by false e = record { low = omega (arith, ints, clamps); order = omega (arith, ints, e); high = omega (arith, ints, clamps, (width_is t).1) }

naturals_by : (s : Bool) (t : IntType) (a : Interval) → is_signed t ≡ s → IsIn t a → IfSome (naturals_with s a) (λ i. AreNatural i)
naturals_by true t a q h = by (int_lt a.high (int_max a.low (pos 0))) refl
  where
    by : (s : Bool) → int_lt a.high (int_max a.low (pos 0)) ≡ s → IfSome (if s then None else Some (from_to (int_max a.low (pos 0)) a.high)) (λ i. AreNatural i)
    by true e = tt
    by false e = record { low = omega (arith, ints, clamps); order = omega (arith, ints, e); high = omega (arith, ints, of_small t a.high h.high) }
naturals_by false t a q h = record { low = of_unsigned t a.low q h.low; order = h.order; high = omega (arith, ints, of_small t a.high h.high) }

pub naturals_are : (t : IntType) (a : Interval) → IsIn t a → IfSome (naturals_with (is_signed t) a) (λ i. AreNatural i)
naturals_are t a h = naturals_by (is_signed t) t a refl h

-- the values from 0 by the counts from 0
left_has : (t : IntType) (c a : Interval) (x y r : ℤ) → pos 0 ≤ℤ a.low → Has a x → pos 0 ≤ℤ c.low → Has c y →
    fitted undefined.ShiftValue t (x *ℤ pos (power y)) ≡ Ok r → Holds (left_all t c (Some a)) r
left_has t c a x y r n h m k e = fit_has undefined.ShiftValue t (a.low *ℤ pos (power c.low)) (a.high *ℤ pos (power c.high)) (x *ℤ pos (power y)) r
    (scaled_up a.low x (power c.low) (power y) n h.low (power_up c.low y m k.low))
    (scaled_up x a.high (power y) (power c.high) (omega (arith, ints, n, h.low)) h.high (power_up y c.high (omega (arith, ints, m, k.low)) k.high)) e

left_values : (s : Bool) (t : IntType) (c a : Interval) (x y r : ℤ) → (s ≡ false → pos 0 ≤ℤ a.low) → Has a x → pos 0 ≤ℤ c.low → Has c y →
    left_with s t x y ≡ Ok r → Holds (left_all t c (naturals_with s a)) r
left_values true t c a x y r n h m k e = sign (int_lt x (pos 0)) refl e
  where
    part : (s : Bool) → int_lt a.high (int_max a.low (pos 0)) ≡ s → pos 0 ≤ℤ x → fitted undefined.ShiftValue t (x *ℤ pos (power y)) ≡ Ok r →
        Holds (left_all t c (if s then None else Some (from_to (int_max a.low (pos 0)) a.high))) r
    part true f p g = absurd (omega (arith, ints, clamps, f, p, h.low, h.high))
    part false f p g = left_has t c (from_to (int_max a.low (pos 0)) a.high) x y r (omega (arith, ints, clamps)) (record { low = omega (arith, ints, clamps, h.low, p); high = h.high }) m k g

    sign : (s : Bool) → int_lt x (pos 0) ≡ s → (if s then Err undefined.ShiftValue else fitted undefined.ShiftValue t (x *ℤ pos (power y))) ≡ Ok r →
        Holds (left_all t c (naturals_with true a)) r
    sign true f g = absurd (cc)
    sign false f g = part (int_lt a.high (int_max a.low (pos 0))) refl (omega (arith, ints, f)) g
left_values false t c a x y r n h m k e = left_has t c a x y r (n refl) h m k e

-- what holds of the counts that a type allows
by_counts : (t : IntType) (c : Interval) (y : ℤ) (P : Option Interval → Type 0) → Has c y → is_count t y ≡ true →
    ((d : Interval) → pos 0 ≤ℤ d.low → Has d y → P (Some d)) → P (counts t c)
by_counts t c y P k e f = by (int_lt (int_min c.high (pos (width t) -ℤ pos 1)) (int_max c.low (pos 0))) refl
  where
    b : (pos 0 ≤ℤ y) × (y <ℤ pos (width t))
    b = count_below t y e

    by : (s : Bool) → int_lt (int_min c.high (pos (width t) -ℤ pos 1)) (int_max c.low (pos 0)) ≡ s →
        P (if s then None else Some (from_to (int_max c.low (pos 0)) (int_min c.high (pos (width t) -ℤ pos 1))))
    by true g = absurd (omega (arith, ints, clamps, g, b.0, b.1, k.low, k.high))
    by false g = f (from_to (int_max c.low (pos 0)) (int_min c.high (pos (width t) -ℤ pos 1))) (omega (arith, ints, clamps))
        (record { low = omega (arith, ints, clamps, k.low, b.0); high = omega (arith, ints, clamps, k.high, b.1) })

pub lefts_have : (t : IntType) (a c : Interval) (x y r : ℤ) → IsIn t a → Has a x → Has c y → applied ops.Shl t x y ≡ Ok r → Holds (binary ops.Shl t a c) r
lefts_have t a c x y r i h k e = by (is_count t y) refl e
  where
    by : (s : Bool) → is_count t y ≡ s → (if s then left_with (is_signed t) t x y else Err undefined.ShiftCount) ≡ Ok r → Holds (binary ops.Shl t a c) r
    by true f g = by_counts t c y (λ o. Holds (left_by t (naturals_with (is_signed t) a) o) r) k f
        (λ d m l. left_values (is_signed t) t d a x y r (λ q. of_unsigned t a.low q i.low) h m l g)
    by false f g = absurd (cc)

lefts_fit : (t : IntType) (c : Interval) (o : Option Interval) → AreCounts c → IfSome o (λ i. AreNatural i) → Fits t (left_all t c o)
lefts_fit t c None h k = tt
lefts_fit t c (Some a) h k = fit_in t (a.low *ℤ pos (power c.low)) (a.high *ℤ pos (power c.high)) (scaled_up a.low a.high (power c.low) (power c.high) k.low k.order (power_up c.low c.high h.low h.order))

pub lefts_in : (t : IntType) (a c : Interval) → IsIn t a → Fits t (binary ops.Shl t a c)
lefts_in t a c h = by (counts t c) (counts_are t c)
  where
    by : (o : Option Interval) → IfSome o (λ d. AreCounts d) → Fits t (left_by t (naturals_with (is_signed t) a) o)
    by None k = tt
    by (Some d) k = lefts_fit t d (naturals_with (is_signed t) a) k (naturals_are t a h)

-- a floor quotient lies between those of the ends by the first and the last count
floor_low : (a x c y d : ℤ) → a ≤ℤ x → pos 0 ≤ℤ c → c ≤ℤ y → y ≤ℤ d → int_min (floor_by a c) (floor_by a d) ≤ℤ floor_by x y
floor_low a x c y d h m k l =
    let up = euclid_mono a x (power y) (power_pos y) h in
    by_lt_z a (pos 0)
    (λ s. omega (arith, ints, clamps, up, quotient_more a (power c) (power y) (power_pos c) (power_up c y m k) s))
    (λ s. omega (arith, ints, clamps, up, quotient_less a (power y) (power d) (power_pos y) (power_up y d (omega (arith, ints, m, k)) l) s))

floor_high : (b x c y d : ℤ) → x ≤ℤ b → pos 0 ≤ℤ c → c ≤ℤ y → y ≤ℤ d → floor_by x y ≤ℤ int_max (floor_by b c) (floor_by b d)
floor_high b x c y d h m k l =
    let up = euclid_mono x b (power y) (power_pos y) h in
    by_lt_z b (pos 0)
    (λ s. omega (arith, ints, clamps, up, quotient_more b (power y) (power d) (power_pos y) (power_up y d (omega (arith, ints, m, k)) l) s))
    (λ s. omega (arith, ints, clamps, up, quotient_less b (power c) (power y) (power_pos c) (power_up c y m k) s))

pub rights_have : (t : IntType) (a c : Interval) (x y r : ℤ) → Has a x → Has c y → applied ops.Shr t x y ≡ Ok r → Holds (binary ops.Shr t a c) r
rights_have t a c x y r h k e = by (is_count t y) refl e
  where
    by : (s : Bool) → is_count t y ≡ s → (if s then Ok (floor_by x y) else Err undefined.ShiftCount) ≡ Ok r → Holds (binary ops.Shr t a c) r
    by true f g = subst (Holds (binary ops.Shr t a c)) (ok_is (floor_by x y) r g) (by_counts t c y (λ o. Holds (mapped (right_by a) o) (floor_by x y)) k f
        (λ d m l. record { low = floor_low a.low x d.low y d.high h.low m l.low l.high; high = floor_high a.high x d.low y d.high h.high m l.low l.high }))
    by false f g = absurd (cc)

pub rights_in : (t : IntType) (a c : Interval) → IsIn t a → Fits t (binary ops.Shr t a c)
rights_in t a c h = by (counts t c) (counts_are t c)
  where
    by : (o : Option Interval) → IfSome o (λ d. AreCounts d) → Fits t (mapped (right_by a) o)
    by None k = tt
    by (Some d) k =
        let p = floor_is_of t a.low (power d.low) h.low in
        let q = floor_is_of t a.low (power d.high) h.low in
        let r = floor_is_of t a.high (power d.low) h.high in
        let s = floor_is_of t a.high (power d.high) h.high in
        let low = floor_low a.low a.high d.low d.low d.high h.order k.low (omega (arith, ints)) k.order in
        lies_in t (right_by a d) (record { least = omega (arith, ints, clamps, p.low, q.low); order = omega (arith, ints, clamps, low); greatest = omega (arith, ints, clamps, r.high, s.high) })
