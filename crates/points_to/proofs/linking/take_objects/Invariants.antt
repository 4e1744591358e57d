use Rattle.points_to.specs.computed.RuleParts.{TakesObject}
use Rattle.points_to.specs.computed.Progress.{IsMet}
use Rattle.points_to.proofs.Steps.{Front}
use Rattle.points_to.proofs.linking.take_objects.Given as goal

abbrev pub invariant-loop-source : goal.invariant-loop-source
invariant-loop-source l = IsMet (Front l.sources l.source-index (λ source flows gets. TakesObject l.classes flows l.layout l.target source)) l.fn.found l.found
