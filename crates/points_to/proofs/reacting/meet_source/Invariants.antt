use Rattle.std.proofs.Common.{◌≡◌}
use Rattle.points_to.specs.Families.{Has}
use Rattle.points_to.specs.computed.Progress.{IsMet, done_of}
use Rattle.points_to.specs.Rules.{Demands, rule_of}
use Rattle.points_to.proofs.Steps.{Front}
use Rattle.points_to.proofs.reacting.meet_source.Given as goal

abbrev pub invariant-loop-member : goal.invariant-loop-member
invariant-loop-member l = IsMet (Front l.members l.member-index (λ member. Demands l.classes (rule_of l.constraint.rule) l.constraint (Has (done_of l.fn.found) l.constraint.target) (λ y. y ≡ member))) l.fn.found l.found
