use Rattle.std.proofs.Common.{◌≡◌, map, take}
use Rattle.verdicts.specs.Verdicts.{verdict_of}
use Rattle.verdicts.proofs.merging.colours.Given as goal

abbrev pub invariant-loop-site : goal.invariant-loop-site
invariant-loop-site l = l.verdicts.items ≡ map (verdict_of l.visits) (take l.site-index l.sites)
