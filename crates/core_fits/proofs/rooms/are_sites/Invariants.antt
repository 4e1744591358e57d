use Rattle.std.proofs.Common.{◌≡◌, drop}
use Rattle.core_fits.specs.Callers.{sites_below}
use Rattle.core_fits.proofs.rooms.are_sites.Given as goal

abbrev pub invariant-loop-site : goal.invariant-loop-site
invariant-loop-site l = sites_below l.count l.sites ≡ sites_below l.count (drop l.site-index l.sites)
