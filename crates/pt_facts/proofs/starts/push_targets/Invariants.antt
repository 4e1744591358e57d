use Rattle.std.proofs.Common.{◌≡◌, ◌++◌, drop, flat_map, Some}
use Rattle.pt_facts.specs.Facts.{made}
use Rattle.pt_facts.proofs.starts.push_targets.Given as goal

abbrev pub invariant-loop-target : goal.invariant-loop-target
invariant-loop-target l = l.facts.items ++ flat_map (λ target. made 1 l.node (Some target) 0) (drop l.target-index l.targets) ≡ l.initial.facts.items ++ flat_map (λ target. made 1 l.node (Some target) 0) l.targets
