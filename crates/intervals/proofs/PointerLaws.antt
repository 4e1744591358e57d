-- Differences of pointers.
use Rattle.std.proofs.Common.{◌≡◌, ◌≢◌, ℕ, zero, suc, ◌*◌, ℤ, pos, negsuc, neg_ℤ, ◌-ℤ◌, ◌*ℤ◌, ◌≤ℤ◌, refl, ◌∙◌, ap, arith}
use Rattle.std.specs.Int.{int_min, int_max}
use Rattle.std.specs.Int.RustNames.{int_div}
use Rattle.std.proofs.lemmas.Int.{ints, clamps}
use Rattle.c_values.specs.declared.int_type.IntType.TheVariants as types
use Rattle.c_values.specs.Types.{IsOf, least, greatest}
use Rattle.intervals.specs.declared.interval.Interval.{Interval}
use Rattle.intervals.specs.Intervals.{Fits, Has, Holds}
use Rattle.std.proofs.Math.Nat.{mul-div_cancel}
use Rattle.int_laws.proofs.Quotients.{quot_mono, quot_neg}
use Rattle.intervals.specs.Forms.{pointer_difference}
use Rattle.intervals.proofs.Fits.{fit_in, span_has}

quot_exact : (r : ℤ) (m : ℕ) → m ≢ 0 → int_div (r *ℤ pos m) (pos m) ≡ r
quot_exact r zero h = absurd (h refl)
quot_exact (pos n) (suc m) h = ap pos (mul-div_cancel n (omega arith))
quot_exact (negsuc n) (suc m) h = quot_neg (pos (suc n * suc m)) (suc m) ∙ ap (λ (k : ℕ). neg_ℤ (pos k)) (mul-div_cancel (suc n) (omega arith))

pub difference_has : (a c : Interval) (size : ℕ) (x y r : ℤ) → size ≢ 0 → Has a x → Has c y → x -ℤ y ≡ r *ℤ pos size → IsOf types.Int r → Holds (pointer_difference a c size) r
difference_has a c size x y r s h k e i =
    let q : int_div (x -ℤ y) (pos size) ≡ r = ap (λ (z : ℤ). int_div z (pos size)) e ∙ quot_exact r size s in
    let l = quot_mono (a.low -ℤ c.high) (x -ℤ y) size (omega (arith, ints, h.low, k.high)) in
    let u = quot_mono (x -ℤ y) (a.high -ℤ c.low) size (omega (arith, ints, h.high, k.low)) in
    span_has (int_max (int_div (a.low -ℤ c.high) (pos size)) (least types.Int)) (int_min (int_div (a.high -ℤ c.low) (pos size)) (greatest types.Int)) r
    (omega (arith, ints, clamps, q, l, i.low)) (omega (arith, ints, clamps, q, u, i.high))

pub difference_in : (a c : Interval) (size : ℕ) → a.low ≤ℤ a.high → c.low ≤ℤ c.high → Fits types.Int (pointer_difference a c size)
difference_in a c size o p = fit_in types.Int (int_div (a.low -ℤ c.high) (pos size)) (int_div (a.high -ℤ c.low) (pos size))
    (quot_mono (a.low -ℤ c.high) (a.high -ℤ c.low) size (omega (arith, ints, o, p)))
