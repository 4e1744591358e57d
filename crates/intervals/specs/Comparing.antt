-- What a comparison makes of intervals: 1 where it holds of each pair, 0 where of none.
use Rattle.std.specs.Prelude.{◌≡◌, Bool, true, false, if◌then◌else◌, ◌&&◌, ◌||◌, ℤ, pos, int_lt}
use Rattle.std.specs.Ordering.{int_eq}
use Rattle.c_values.specs.declared.operator.Cmp.{Cmp}
use Rattle.c_values.specs.declared.operator.Cmp.TheVariants as compares
use Rattle.c_values.specs.Comparisons.{compared, opposite}
use Rattle.intervals.specs.declared.interval.Interval.{Interval}
use Rattle.intervals.specs.Intervals.{Has, from_to}

-- the comparison holds of each pair of numbers of two intervals that are not empty
abbrev pub holds_of_all : Cmp → Interval → Interval → Bool
holds_of_all compares.Lt a c = int_lt a.high c.low
holds_of_all compares.Le a c = opposite (int_lt c.low a.high)
holds_of_all compares.Gt a c = int_lt c.high a.low
holds_of_all compares.Ge a c = opposite (int_lt a.low c.high)
holds_of_all compares.Eq a c = int_eq a.low c.high && int_eq a.high c.low
holds_of_all compares.Ne a c = int_lt a.high c.low || int_lt c.high a.low

abbrev pub opposite_of : Cmp → Cmp
opposite_of compares.Lt = compares.Ge
opposite_of compares.Le = compares.Gt
opposite_of compares.Gt = compares.Le
opposite_of compares.Ge = compares.Lt
opposite_of compares.Eq = compares.Ne
opposite_of compares.Ne = compares.Eq

abbrev pub truth_with : Bool → Bool → Interval
truth_with always never = if always then from_to (pos 1) (pos 1) else (if never then from_to (pos 0) (pos 0) else from_to (pos 0) (pos 1))

abbrev pub compared_all : Cmp → Interval → Interval → Interval
compared_all c a b = truth_with (holds_of_all c a b) (holds_of_all (opposite_of c) a b)

-- each pair compares so
abbrev pub Always : Cmp → Interval → Interval → Bool → Type 0
Always c a b truth = (x y : ℤ) → Has a x → Has b y → compared c x y ≡ truth

-- the number of a truth (6.5.8)
abbrev pub truth : Bool → ℤ
truth true = pos 1
truth false = pos 0
