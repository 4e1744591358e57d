use Rattle.std.proofs.Common.{◌≡◌, ◌++◌, drop, map, flat_map}
use Rattle.var_clusters.specs.Pairs.{step_pairs}
use Rattle.var_clusters.proofs.pairs.pairs.Given as goal

abbrev pub invariant-loop-step : goal.invariant-loop-step
invariant-loop-step l = l.all.items ++ flat_map (step_pairs l.f.registers.items l.f.result) (map (λ x. x.now) (drop l.step-index l.step-items)) ≡ flat_map (step_pairs l.f.registers.items l.f.result) (map (λ x. x.now) l.step-items)
