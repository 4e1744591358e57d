-- Comparisons of intervals.
use Rattle.std.proofs.Common.{◌≡◌, ◌⊎◌, inl, inr, Bool, true, false, ℤ, pos, ◌≤ℤ◌, ◌<ℤ◌, int_lt, refl, sym, ◌∙◌, ap, arith}
use Rattle.std.specs.Prelude.{◌&&◌, ◌||◌}
use Rattle.std.specs.Ordering.{int_eq}
use Rattle.std.specs.Int.{int_max}
use Rattle.std.proofs.lemmas.Int.{ints, clamps}
use Rattle.intervals.specs.declared.interval.Interval.{Interval}
use Rattle.intervals.specs.Intervals.{Has, from_to}
use Rattle.c_values.specs.declared.operator.Cmp.{Cmp}
use Rattle.c_values.specs.declared.operator.Cmp.TheVariants as compares
use Rattle.c_values.specs.Comparisons.{compared, opposite}
use Rattle.intervals.specs.Comparing.{Always, compared_all, holds_of_all, opposite_of, truth, truth_with}
use Rattle.intervals.proofs.Fits.{eq_false, eq_true, same_is}

lt_true : (x y : ℤ) → x <ℤ y → int_lt x y ≡ true
lt_true x y h = grind (arith, ints)

lt_false : (x y : ℤ) → y ≤ℤ x → int_lt x y ≡ false
lt_false x y h = grind (arith, ints)

lt_is : (x y : ℤ) → int_lt x y ≡ true → x <ℤ y
lt_is x y e = omega (arith, ints, e)

not_lt_is : (x y : ℤ) → opposite (int_lt x y) ≡ true → y ≤ℤ x
not_lt_is x y e = by (int_lt x y) refl e
  where
    by : (s : Bool) → int_lt x y ≡ s → opposite s ≡ true → y ≤ℤ x
    by true f g = absurd (cc)
    by false f g = omega (arith, ints, f)

both_are : (s t : Bool) → (s && t) ≡ true → (s ≡ true) × (t ≡ true)
both_are true true e = (refl, refl)
both_are true false e = absurd (cc)
both_are false t e = absurd (cc)

either_is : (s t : Bool) → (s || t) ≡ true → (s ≡ true) ⊎ (t ≡ true)
either_is true t e = inl refl
either_is false true e = inr refl
either_is false false e = absurd (cc)

holds_is : (c : Cmp) (a b : Interval) (x y : ℤ) → Has a x → Has b y → holds_of_all c a b ≡ true → compared c x y ≡ true
holds_is compares.Lt a b x y h k e = lt_true x y (omega (arith, ints, lt_is a.high b.low e, h.high, k.low))
holds_is compares.Le a b x y h k e = rw (lt_false y x (omega (arith, ints, not_lt_is b.low a.high e, h.high, k.low))) refl
holds_is compares.Gt a b x y h k e = lt_true y x (omega (arith, ints, lt_is b.high a.low e, h.low, k.high))
holds_is compares.Ge a b x y h k e = rw (lt_false x y (omega (arith, ints, not_lt_is a.low b.high e, h.low, k.high))) refl
holds_is compares.Eq a b x y h k e =
    let d = both_are (int_eq a.low b.high) (int_eq a.high b.low) e in
    eq_true x y (omega (arith, ints, same_is a.low b.high d.0, same_is a.high b.low d.1, h.low, h.high, k.low, k.high))
holds_is compares.Ne a b x y h k e = elim (either_is (int_lt a.high b.low) (int_lt b.high a.low) e) [
  | inl q ↦ rw (eq_false x y (inl (omega (arith, ints, lt_is a.high b.low q, h.high, k.low)))) refl
  | inr q ↦ rw (eq_false x y (inr (omega (arith, ints, lt_is b.high a.low q, h.low, k.high)))) refl
]

twice : (s : Bool) → opposite (opposite s) ≡ s
twice true = refl
twice false = refl

opposite_is : (c : Cmp) (x y : ℤ) → compared (opposite_of c) x y ≡ opposite (compared c x y)
opposite_is compares.Lt x y = refl
opposite_is compares.Le x y = sym (twice (int_lt y x))
opposite_is compares.Gt x y = refl
opposite_is compares.Ge x y = sym (twice (int_lt x y))
opposite_is compares.Eq x y = refl
opposite_is compares.Ne x y = sym (twice (int_eq x y))

never_is : (c : Cmp) (a b : Interval) (x y : ℤ) → Has a x → Has b y → holds_of_all (opposite_of c) a b ≡ true → compared c x y ≡ false
never_is c a b x y h k e = by (compared c x y) (sym (opposite_is c x y) ∙ holds_is (opposite_of c) a b x y h k e)
  where
    by : (s : Bool) → opposite s ≡ true → s ≡ false
    by true q = absurd (cc)
    by false q = refl

truth_between : (s : Bool) → Has (from_to (pos 0) (pos 1)) (truth s)
truth_between true = record { low = omega (arith, ints); high = omega (arith, ints) }
truth_between false = record { low = omega (arith, ints); high = omega (arith, ints) }

pub compared_has : (c : Cmp) (a b : Interval) (x y : ℤ) → Has a x → Has b y → Has (compared_all c a b) (truth (compared c x y))
compared_has c a b x y h k = by (holds_of_all c a b) (holds_of_all (opposite_of c) a b) refl refl
  where
    by : (s n : Bool) → holds_of_all c a b ≡ s → holds_of_all (opposite_of c) a b ≡ n → Has (truth_with s n) (truth (compared c x y))
    by true n e g = rw (holds_is c a b x y h k e) (record { low = omega (arith, ints); high = omega (arith, ints) })
    by false true e g = rw (never_is c a b x y h k g) (record { low = omega (arith, ints); high = omega (arith, ints) })
    by false false e g = truth_between (compared c x y)

opposite_true : (s : Bool) → opposite s ≡ true → s ≡ false
opposite_true true e = absurd (cc)
opposite_true false e = refl

-- where each pair compares so, the ends say it
ends_say : (c : Cmp) (a b : Interval) → a.low ≤ℤ a.high → b.low ≤ℤ b.high → Always c a b true → holds_of_all c a b ≡ true
ends_say c a b o p h = by c h
  where
    al : Has a a.low
    al = record { low = omega (arith, ints); high = o }

    ah : Has a a.high
    ah = record { low = o; high = omega (arith, ints) }

    bl : Has b b.low
    bl = record { low = omega (arith, ints); high = p }

    bh : Has b b.high
    bh = record { low = p; high = omega (arith, ints) }

    apart : Always compares.Ne a b true → (s t : Bool) → int_lt a.high b.low ≡ s → int_lt b.high a.low ≡ t → (s || t) ≡ true
    apart h true t e g = refl
    apart h false true e g = refl
    apart h false false e g =
        let q = h (int_max a.low b.low) (int_max a.low b.low)
        (record { low = omega (arith, ints, clamps); high = omega (arith, ints, clamps, o, g, p, e) })
        (record { low = omega (arith, ints, clamps); high = omega (arith, ints, clamps, o, g, p, e) }) in
        let r = eq_true (int_max a.low b.low) (int_max a.low b.low) refl in
        let w = opposite_true (int_eq (int_max a.low b.low) (int_max a.low b.low)) q in
        absurd (cc)

    by : (c : Cmp) → Always c a b true → holds_of_all c a b ≡ true
    by compares.Lt h = h a.high b.low ah bl
    by compares.Le h = h a.high b.low ah bl
    by compares.Gt h = h a.low b.high al bh
    by compares.Ge h = h a.low b.high al bh
    by compares.Eq h = rw (h a.low b.high al bh, h a.high b.low ah bl) refl
    by compares.Ne h = apart h (int_lt a.high b.low) (int_lt b.high a.low) refl refl

pub compared_one : (c : Cmp) (a b : Interval) → a.low ≤ℤ a.high → b.low ≤ℤ b.high → Always c a b true → compared_all c a b ≡ from_to (pos 1) (pos 1)
compared_one c a b o p h = rw (ends_say c a b o p h) refl

pub compared_zero : (c : Cmp) (a b : Interval) → a.low ≤ℤ a.high → b.low ≤ℤ b.high → Always c a b false → compared_all c a b ≡ from_to (pos 0) (pos 0)
compared_zero c a b o p h = rw (ends_say (opposite_of c) a b o p other) (by (holds_of_all c a b) refl)
  where
    other : Always (opposite_of c) a b true
    other x y k l = opposite_is c x y ∙ ap opposite (h x y k l)

    by : (s : Bool) → holds_of_all c a b ≡ s → truth_with s true ≡ from_to (pos 0) (pos 0)
    by false e = refl
    by true e =
        let al : Has a a.low = record { low = omega (arith, ints); high = o } in
        let bl : Has b b.low = record { low = omega (arith, ints); high = p } in
        let q = holds_is c a b a.low b.low al bl e in
        let r = h a.low b.low al bl in
        absurd (cc)
