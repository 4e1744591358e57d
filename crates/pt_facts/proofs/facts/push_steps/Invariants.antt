use Rattle.std.proofs.Common.{◌≡◌, ◌++◌, drop, map, flat_map}
use Rattle.pt_facts.specs.Facts.{step_facts}
use Rattle.pt_facts.proofs.facts.push_steps.Given as goal

abbrev pub invariant-loop-step : goal.invariant-loop-step
invariant-loop-step l = l.facts.items ++ flat_map (step_facts l.x.functions.now l.x.count l.x.base l.x.f.now) (map (λ x. x.now) (drop l.step-index l.step-items)) ≡ l.initial.facts.items ++ flat_map (step_facts l.x.functions.now l.x.count l.x.base l.x.f.now) (map (λ x. x.now) l.step-items)
