use Rattle.std.proofs.Common.{◌≡◌, true}
use Rattle.points_to.specs.Sets.{has}
use Rattle.points_to.specs.Families.{Has}
use Rattle.points_to.specs.computed.Progress.{IsMet, done_of}
use Rattle.points_to.specs.Rules.{Demands, rule_of}
use Rattle.points_to.proofs.Steps.{Front}
use Rattle.points_to.proofs.reacting.meet_sources.Given as goal

abbrev pub invariant-loop-constraint : goal.invariant-loop-constraint
invariant-loop-constraint l = IsMet (Front l.constraints l.constraint-index (λ constraint. Demands l.classes (rule_of constraint.rule) constraint (Has (done_of l.fn.found) constraint.target) (λ y. has l.members y ≡ true))) l.fn.found l.found
