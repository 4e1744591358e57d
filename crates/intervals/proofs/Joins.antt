-- Joining and widening keep both.
use Rattle.std.proofs.Common.{◌≡◌, ◌⊎◌, inl, inr, Bool, true, false, ℤ, ◌≤ℤ◌, int_lt, Option, Some, None, refl, arith}
use Rattle.std.specs.Prelude.{if◌then◌else◌, ⊤}
use Rattle.std.proofs.lemmas.Int.{ints, clamps}
use Rattle.c_values.proofs.Ranges.{range}
use Rattle.intervals.specs.declared.interval.Interval.{Interval}
use Rattle.intervals.specs.Intervals.{Has, Holds, hull, join_options, widened}

pub hull_has : (i j : Interval) (z : ℤ) → Has i z ⊎ Has j z → Has (hull i j) z
hull_has i j z h = elim h [
  | inl k ↦ record { low = omega (arith, ints, clamps, k.low); high = omega (arith, ints, clamps, k.high) }
  | inr k ↦ record { low = omega (arith, ints, clamps, k.low); high = omega (arith, ints, clamps, k.high) }
]

pub widened_has : (old new range : Interval) (z : ℤ) → Has range z → Has old z ⊎ Has new z → Has (widened old new range) z
widened_has old new range z r h = record { low = low (int_lt new.low old.low) refl h; high = high (int_lt old.high new.high) refl h }
  where
    low : (s : Bool) → int_lt new.low old.low ≡ s → Has old z ⊎ Has new z → (if s then range.low else old.low) ≤ℤ z
    low true e k = r.low
    low false e (inl k) = k.low
    low false e (inr k) = omega (arith, ints, e, k.low)

    high : (s : Bool) → int_lt old.high new.high ≡ s → Has old z ⊎ Has new z → z ≤ℤ (if s then range.high else old.high)
    high true e k = r.high
    high false e (inl k) = k.high
    high false e (inr k) = omega (arith, ints, e, k.high)

-- not empty
pub record IsOrdered (i : Interval) : Type 0 where
  pub order : i.low ≤ℤ i.high

abbrev pub AllOrdered : Option Interval → Type 0
AllOrdered None = ⊤
AllOrdered (Some i) = IsOrdered i

pub join_ordered : (o p : Option Interval) → AllOrdered o → AllOrdered p → AllOrdered (join_options o p)
join_ordered None p h k = k
join_ordered (Some i) None h k = h
join_ordered (Some i) (Some j) h k = record { order = omega (arith, ints, clamps, h.order) }

pub join_left : (o p : Option Interval) (z : ℤ) → Holds o z → Holds (join_options o p) z
join_left None p z h = absurd h
join_left (Some i) None z h = h
join_left (Some i) (Some j) z h = record { low = omega (arith, ints, clamps, h.low); high = omega (arith, ints, clamps, h.high) }

pub join_right : (o p : Option Interval) (z : ℤ) → Holds p z → Holds (join_options o p) z
join_right None p z h = h
join_right (Some i) None z h = absurd h
join_right (Some i) (Some j) z h = record { low = omega (arith, ints, clamps, h.low); high = omega (arith, ints, clamps, h.high) }
