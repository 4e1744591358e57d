use Rattle.std.proofs.Common.{◌≡◌, ◌++◌, take}
use Rattle.std.specs.List.{flat_map}
use Rattle.std.specs.Fmt.{decimal}
use Rattle.source_maker.proofs.push_numbered.Given as goal

abbrev pub invariant-loop-before : goal.invariant-loop-before
invariant-loop-before l = l.text.items ≡ l.initial.text.items ++ flat_map (λ p. p.0.now ++ decimal p.1) (take l.before-index l.parts)
