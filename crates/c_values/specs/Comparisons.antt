-- Comparisons of integers (ISO/IEC 9899:1999, 6.5.8 and 6.5.9).
use Rattle.std.specs.Prelude.{Bool, true, false, ℤ, int_lt}
use Rattle.std.specs.Ordering.{int_eq}
use Rattle.c_values.specs.declared.operator.Cmp.{Cmp}
use Rattle.c_values.specs.declared.operator.Cmp.TheVariants as compares

abbrev pub opposite : Bool → Bool
opposite true = false
opposite false = true

abbrev pub compared : Cmp → ℤ → ℤ → Bool
compared compares.Lt a b = int_lt a b
compared compares.Le a b = opposite (int_lt b a)
compared compares.Gt a b = int_lt b a
compared compares.Ge a b = opposite (int_lt a b)
compared compares.Eq a b = int_eq a b
compared compares.Ne a b = opposite (int_eq a b)
