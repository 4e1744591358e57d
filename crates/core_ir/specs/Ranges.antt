-- Ranges of numbers, from the first to the second.
use Rattle.std.specs.Prelude.{◌^◌, ℤ, pos, neg_ℤ, ◌≤ℤ◌}
use Rattle.c_values.specs.declared.int_type.IntType.{IntType}
use Rattle.c_values.specs.Types.{least, greatest}
use Rattle.core_ir.specs.declared.steps.Leaf.{Leaf}
use Rattle.core_ir.specs.declared.steps.Leaf.TheVariants.{Int, Pointer}

abbrev pub Range : Type 0
Range = ℤ × ℤ

-- from -n to n
abbrev pub within : ℤ → Range
within n = (neg_ℤ n, n)

abbrev pub type_range : IntType → Range
type_range t = (least t, greatest t)

-- what a register or a leaf holds: a value of its type; of a pointer the offset counts, which every run keeps within 2 ^ 80
abbrev pub leaf_range : Leaf → Range
leaf_range (Int t) = type_range t
leaf_range Pointer = within (pos (2 ^ 80))

-- the second range lies in the first
pub record Includes (outer inner : Range) : Type 0 where
  pub low : outer.0 ≤ℤ inner.0
  pub high : inner.1 ≤ℤ outer.1
