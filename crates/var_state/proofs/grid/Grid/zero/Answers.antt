use Rattle.std.proofs.Common.{arith}
use Rattle.var_state.specs.Grids.{at}
use Rattle.var_state.proofs.Closed.{zero_sound}
use Rattle.var_state.proofs.grid.Grid.zero.Goals as goal

pub invariant_of-result : goal.invariant_of-result
invariant_of-result c =
    (record { some = omega arith; most = omega arith; length = c.in_ok-cells.ensures.len }, zero_sound c.clamp-size.result (at c.in_ok-cells.cells.items) c.in_ok-cells.ensures.each)
