use Rattle.std.proofs.Common.{length}
use Rattle.core_fits.proofs.starts.Starts.add_unions.Given as goal

abbrev pub decreases-loop-union : goal.decreases-loop-union
decreases-loop-union l = length l.rest
