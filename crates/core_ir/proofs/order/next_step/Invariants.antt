use Rattle.std.proofs.Common.{◌≡◌, length}
use Rattle.core_ir.specs.Walk.{pending}
use Rattle.core_ir.proofs.order.next_step.Given as goal

-- lists that are empty were passed over
abbrev pub invariant-loop-steps : goal.invariant-loop-steps
invariant-loop-steps l = pending l.left.items ≡ pending l.initial.left.items

abbrev pub decreases-loop-steps : goal.decreases-loop-steps
decreases-loop-steps l = length l.left.items
