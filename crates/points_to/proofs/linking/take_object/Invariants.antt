use Rattle.points_to.proofs.Links.{AskedSource}
use Rattle.points_to.specs.computed.Progress.{IsMet}
use Rattle.points_to.proofs.Steps.{Front}
use Rattle.points_to.proofs.linking.take_object.Given as goal

abbrev pub invariant-loop-part : goal.invariant-loop-part
invariant-loop-part l = IsMet (Front l.part-items l.part-index (AskedSource l.classes l.layout l.targets)) l.fn.found l.found
