use Rattle.std.proofs.Common.{◌≡◌, length}
use Rattle.round_tasks.proofs.alone.by_site.Given as goal

abbrev pub invariant-loop-site : goal.invariant-loop-site
invariant-loop-site l = length l.colours.items ≡ l.sites
