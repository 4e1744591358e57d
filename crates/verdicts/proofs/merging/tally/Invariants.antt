use Rattle.std.proofs.Common.{take}
use Rattle.verdicts.specs.Verdicts.{IsTally}
use Rattle.verdicts.proofs.merging.tally.Given as goal

abbrev pub invariant-loop-site : goal.invariant-loop-site
invariant-loop-site l = IsTally l.found (take l.site-index l.visits)
