use Rattle.points_to.specs.computed.RuleParts.{TakesObject}
use Rattle.points_to.specs.computed.Progress.{IsMet}
use Rattle.points_to.proofs.Steps.{Front}
use Rattle.points_to.proofs.linking.give_objects.Given as goal

abbrev pub invariant-loop-target : goal.invariant-loop-target
invariant-loop-target l = IsMet (Front l.targets l.target-index (λ target flows gets. TakesObject l.classes flows l.layout target l.source)) l.fn.found l.found
