use Rattle.points_to.specs.computed.Progress.{IsMet}
use Rattle.points_to.specs.Rules.{rule_of}
use Rattle.points_to.specs.computed.Solving.{Opens}
use Rattle.points_to.proofs.Steps.{Front}
use Rattle.points_to.proofs.solving.open_all.Given as goal

abbrev pub invariant-loop-constraint : goal.invariant-loop-constraint
invariant-loop-constraint l = IsMet (Front l.all l.constraint-index (λ constraint. Opens (rule_of constraint.rule) constraint)) l.fn.found l.found
