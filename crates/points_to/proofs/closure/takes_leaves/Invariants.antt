use Rattle.std.proofs.Common.{◌≡◌, ℕ, ◌<◌, Some, slice_get}
use Rattle.core_ir.specs.Plain.{lists_of}
use Rattle.points_to.specs.Families.{Flows, family_of}
use Rattle.points_to.specs.Rules.{pointer_node}
use Rattle.points_to.specs.computed.RuleParts.{Then}
use Rattle.points_to.proofs.closure.takes_leaves.Given as goal

abbrev pub invariant-loop-leaf : goal.invariant-loop-leaf
invariant-loop-leaf l = (k leaf : ℕ) → k < l.leaf-index → slice_get l.leaf-items k ≡ Some leaf → Then (pointer_node l.classes leaf) (λ node. Flows (family_of (lists_of l.sets)) node l.to)
