use Rattle.std.proofs.Common.{rules}
use Rattle.var_state.proofs.Standing.{filling}
use Rattle.var_state.proofs.closing.matrix_of.Goals as goal

pub loop-i-init : goal.loop-i-init
loop-i-init c =
    filling c.args.n _ c.widest-m.result c.widest-m.ensures.size c.widest-m.ensures.within c.widest-m.ensures.ranged (search rules)
