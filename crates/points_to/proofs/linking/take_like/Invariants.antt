use Rattle.std.proofs.Common.{◌≡◌, ℕ, ◌<◌, Some, slice_get}
use Rattle.points_to.specs.computed.RuleParts.{TakesLeaf}
use Rattle.points_to.specs.computed.Progress.{IsMet}
use Rattle.points_to.proofs.linking.take_like.Given as goal

abbrev pub invariant-loop-place : goal.invariant-loop-place
invariant-loop-place l = IsMet (λ flows gets. (k target source : ℕ) → k < l.place → slice_get l.targets k ≡ Some target → slice_get l.sources k ≡ Some source → TakesLeaf l.classes flows target source) l.fn.found l.found
