use Rattle.points_to.proofs.Links.{AskedLayout}
use Rattle.points_to.specs.computed.Progress.{IsMet}
use Rattle.points_to.proofs.Steps.{Front}
use Rattle.points_to.proofs.linking.take_layouts.Given as goal

abbrev pub invariant-loop-target : goal.invariant-loop-target
invariant-loop-target l = IsMet (Front l.targets l.target-index (AskedLayout l.classes l.layout l.sources)) l.fn.found l.found
