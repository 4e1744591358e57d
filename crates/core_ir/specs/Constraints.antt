-- The order of constraints.
use Rattle.std.specs.Prelude.{Bool}
use Rattle.std.specs.Ordering.{nat_cmp, ordering_then, is_lt}
use Rattle.std.specs.declared.cmp.Ordering.{Ordering}
use Rattle.core_ir.specs.declared.artifacts.Constraint.{Constraint}

-- by rule, then by target, source and third, which is the order of their bytes
abbrev pub constraint_cmp : Constraint → Constraint → Ordering
constraint_cmp a b = ordering_then (nat_cmp a.rule b.rule) (ordering_then (nat_cmp a.target b.target) (ordering_then (nat_cmp a.source b.source) (nat_cmp a.third b.third)))

abbrev pub is_constraint_before : Constraint → Constraint → Bool
is_constraint_before a b = is_lt (constraint_cmp a b)
