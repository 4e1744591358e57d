use Rattle.std.proofs.Common.{◌≡◌, ◌++◌, drop, map}
use Rattle.std.specs.List.{filter_map}
use Rattle.var_clusters.specs.Pairs.{named_target}
use Rattle.var_clusters.proofs.pairs.targets.Given as goal

abbrev pub invariant-loop-step : goal.invariant-loop-step
invariant-loop-step l = l.found.items ++ filter_map (named_target l.registers) (map (λ x. x.now) (drop l.step-index l.step-items)) ≡ filter_map (named_target l.registers) (map (λ x. x.now) l.step-items)
