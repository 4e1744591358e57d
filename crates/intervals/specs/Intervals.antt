-- Intervals of integers. The empty interval is None.
use Rattle.std.specs.Prelude.{◌^◌, if◌then◌else◌, ℤ, pos, neg_ℤ, ◌≤ℤ◌, int_lt, Option, Some, None, ⊤}
use Rattle.std.specs.Int.{int_max, int_min}
use Rattle.c_values.specs.declared.int_type.IntType.{IntType}
use Rattle.c_values.specs.Types.{IsOf, greatest, least}
use Rattle.intervals.specs.declared.interval.Interval.{Interval}

-- z lies in the interval
pub record Has (i : Interval) (z : ℤ) : Type 0 where
  pub low : i.low ≤ℤ z
  pub high : z ≤ℤ i.high

abbrev pub Holds : Option Interval → ℤ → Type 0
Holds None z = ⊥
Holds (Some i) z = Has i z

-- an interval of values of the type, not empty
pub record IsIn (t : IntType) (i : Interval) : Type 0 where
  pub low : IsOf t i.low
  pub order : i.low ≤ℤ i.high
  pub high : IsOf t i.high

abbrev pub Fits : IntType → Option Interval → Type 0
Fits t None = ⊤
Fits t (Some i) = IsIn t i

-- an interval within 2 ^ 80 either way, not empty
pub record IsNear (i : Interval) : Type 0 where
  pub low : neg_ℤ (pos (2 ^ 80)) ≤ℤ i.low
  pub order : i.low ≤ℤ i.high
  pub high : i.high ≤ℤ pos (2 ^ 80)

abbrev pub from_to : ℤ → ℤ → Interval
from_to l u = record { low = l; high = u }

-- all numbers from l to u
abbrev pub span : ℤ → ℤ → Option Interval
span l u = if int_lt u l then None else Some (from_to l u)

abbrev pub range_of : IntType → Interval
range_of t = from_to (least t) (greatest t)

-- the least interval that has both
abbrev pub hull : Interval → Interval → Interval
hull i j = from_to (int_min i.low j.low) (int_max i.high j.high)

abbrev pub join_options : Option Interval → Option Interval → Option Interval
join_options None o = o
join_options (Some i) None = Some i
join_options (Some i) (Some j) = Some (hull i j)

abbrev pub mapped : (Interval → Interval) → Option Interval → Option Interval
mapped f None = None
mapped f (Some i) = Some (f i)

-- an end is kept where the new one is not beyond it, and is the range's otherwise
abbrev pub widened : Interval → Interval → Interval → Interval
widened old new range = from_to (if int_lt new.low old.low then range.low else old.low) (if int_lt old.high new.high then range.high else old.high)
