use Rattle.std.proofs.Common.{◌≡◌, ◌++◌, map, length}
use Rattle.core_ir.specs.Order.{text_order}
use Rattle.core_ir.specs.Walk.{pending}
use Rattle.core_ir.proofs.order.in_order.Given as goal

-- those that were met, and then those that are left
abbrev pub invariant-loop-left : goal.invariant-loop-left
invariant-loop-left l = map (λ x. x.now) l.all.items ++ text_order (pending l.left.items) ≡ text_order l.steps

abbrev pub decreases-loop-left : goal.decreases-loop-left
decreases-loop-left l = length (text_order (pending l.left.items))
