use Rattle.std.proofs.Common.{length}
use Rattle.dbm_incremental.proofs.Together.{AddedSoFar}
use Rattle.dbm_incremental.proofs.pending.add_all.Given as goal

abbrev pub invariant-loop-i : goal.invariant-loop-i
invariant-loop-i l = AddedSoFar l.bounds l.rest l.fn.m l.m

abbrev pub decreases-loop-i : goal.decreases-loop-i
decreases-loop-i l = length l.rest
