use Rattle.std.proofs.Common.{◌≡◌, ℕ, ◌<◌, List, Some, slice_get, take}
use Rattle.core_ir.specs.Plain.{lists_of}
use Rattle.points_to.specs.Sets.{IsSet}
use Rattle.points_to.proofs.solving.lists.Given as goal

abbrev pub invariant-loop-set : goal.invariant-loop-set
invariant-loop-set l = record {
  lists : lists_of l.lists.items ≡ take l.set-index l.sets;
  sets : (k : ℕ) (set : List ℕ) → k < l.set-index → slice_get l.sets k ≡ Some set → IsSet set;
}
