-- Members that constraints and a class table name.
use Rattle.std.specs.Prelude.{◌≡◌, ℕ, Bool, true, Some, List, slice_get}
use Rattle.core_ir.specs.declared.classes.ClassTable.{ClassTable}
use Rattle.core_ir.specs.declared.classes.PartClass.{PartClass}
use Rattle.core_ir.specs.declared.artifacts.Constraint.{Constraint}
use Rattle.points_to.specs.declared.rule.Rule.TheVariants as rules
use Rattle.points_to.specs.Rules.{parts_in, rule_of}

-- the addresses that constraints take, and the sub-objects of region classes, pass a test
pub record NamesOnly (test : ℕ → Bool) (classes : ClassTable) (all : List Constraint) : Type 0 where
  pub addresses : (k : ℕ) (c : Constraint) → slice_get all k ≡ Some c → rule_of c.rule ≡ rules.Address → test c.source ≡ true
  pub parts : (x k : ℕ) (part : PartClass) → slice_get (parts_in classes x) k ≡ Some part → test part.«class» ≡ true
