use Rattle.points_to.proofs.Links.{AskedPart}
use Rattle.points_to.specs.computed.Progress.{IsMet}
use Rattle.points_to.proofs.Steps.{Front}
use Rattle.points_to.proofs.linking.take_parts.Given as goal

abbrev pub invariant-loop-part : goal.invariant-loop-part
invariant-loop-part l = IsMet (Front l.part-items l.part-index (AskedPart l.number l.to)) l.fn.found l.found
