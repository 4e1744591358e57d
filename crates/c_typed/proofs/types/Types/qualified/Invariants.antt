use Rattle.std.proofs.Common.{vec_len}
use Rattle.c_typed.proofs.types.Types.qualified.Given as goal

-- a part stands before its whole
abbrev pub decreases-down : goal.decreases-down
decreases-down l = l.inner.0

-- the arrays that are left
abbrev pub decreases-up : goal.decreases-up
decreases-up l = vec_len l.arrays
