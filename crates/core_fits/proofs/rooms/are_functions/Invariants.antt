use Rattle.std.proofs.Common.{◌≡◌, drop}
use Rattle.core_fits.specs.Callers.{are_below}
use Rattle.core_fits.proofs.rooms.are_functions.Given as goal

abbrev pub invariant-loop-entry : goal.invariant-loop-entry
invariant-loop-entry l = are_below l.count l.entries ≡ are_below l.count (drop l.entry-index l.entries)
