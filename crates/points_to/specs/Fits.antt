-- Constraints and class tables whose nodes are in range.
use Rattle.std.specs.Prelude.{◌≡◌, ℕ, ◌+◌, ◌<◌, ◌≤◌, Bool, true, false, List, length}
use Rattle.core_ir.specs.declared.classes.ClassTable.{ClassTable}
use Rattle.core_ir.specs.declared.classes.FunctionNodes.{FunctionNodes}
use Rattle.core_ir.specs.declared.artifacts.Constraint.{Constraint}
use Rattle.points_to.specs.declared.rule.Rule.{Rule}
use Rattle.points_to.specs.declared.rule.Rule.TheVariants as rules
use Rattle.points_to.specs.Rules.{rule_of}
use Rattle.points_to.specs.computed.RuleParts.{Each, Then}

-- a function's entry registers and its result are among the nodes
pub record IsFunctionWithin (nodes : ℕ) (function : FunctionNodes) : Type 0 where
  pub entries : Each function.entries.items (λ node. node < nodes)
  pub result : Then function.result (λ node. node < nodes)

-- the nodes of a class table are among the nodes
pub record IsTableWithin (nodes : ℕ) (classes : ClassTable) : Type 0 where
  pub leaves : classes.registers + length classes.leaves.items ≤ nodes
  pub functions : Each classes.nodes.items (IsFunctionWithin nodes)

-- rules whose demands reach nodes of the class table
abbrev pub uses_table : Rule → Bool
uses_table rules.Address = false
uses_table rules.Copy = false
uses_table rules.Load = true
uses_table rules.Store = true
uses_table rules.SubObject = false
uses_table rules.ObjectCopy = true
uses_table rules.Argument = true
uses_table rules.Result = true
uses_table rules.Unknown = false

-- rules whose source is a node
abbrev pub has_source : Rule → Bool
has_source rules.Address = false
has_source rules.Copy = true
has_source rules.Load = true
has_source rules.Store = true
has_source rules.SubObject = true
has_source rules.ObjectCopy = true
has_source rules.Argument = true
has_source rules.Result = true
has_source rules.Unknown = false

-- the nodes that a constraint names, and those that it reaches by the class table, are among the nodes
pub record IsConstraintWithin (nodes : ℕ) (classes : ClassTable) (c : Constraint) : Type 0 where
  pub target : c.target < nodes
  pub source : has_source (rule_of c.rule) ≡ true → c.source < nodes
  pub table : uses_table (rule_of c.rule) ≡ true → IsTableWithin nodes classes

abbrev pub Fits : ℕ → List Constraint → ClassTable → Type 0
Fits nodes all classes = Each all (IsConstraintWithin nodes classes)
