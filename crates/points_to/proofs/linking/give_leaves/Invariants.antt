use Rattle.std.proofs.Common.{Some}
use Rattle.points_to.specs.Rules.{pointer_node}
use Rattle.points_to.proofs.Links.{AskedEdge}
use Rattle.points_to.specs.computed.Progress.{IsMet}
use Rattle.points_to.proofs.Steps.{Front}
use Rattle.points_to.proofs.linking.give_leaves.Given as goal

abbrev pub invariant-loop-leaf : goal.invariant-loop-leaf
invariant-loop-leaf l = IsMet (Front l.leaf-items l.leaf-index (λ leaf. AskedEdge (Some l.from) (pointer_node l.classes leaf))) l.fn.found l.found
