use Rattle.std.proofs.Common.{◌≡◌, ℕ, true}
use Rattle.points_to.specs.Sets.{has}
use Rattle.points_to.specs.computed.Progress.{IsMet}
use Rattle.points_to.proofs.Steps.{Front}
use Rattle.points_to.proofs.progress.Progress.hand_on.Given as goal

abbrev pub invariant-loop-to : goal.invariant-loop-to
invariant-loop-to l = record {
  met : IsMet (Front l.to-items l.to-index (λ to flows gets. (member : ℕ) → has l.members member ≡ true → gets to member)) l.fn.self l.self;
  edges : l.self.edges.items ≡ l.fn.self.edges.items;
}
