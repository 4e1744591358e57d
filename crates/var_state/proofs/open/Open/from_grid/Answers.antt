use Rattle.var_state.proofs.open.Open.from_grid.Goals as goal

pub open_from-requires-clause-room : goal.open_from-requires-clause-room
open_from-requires-clause-room c = record { some = c.size-size.ensures.range.0; most = c.size-size.ensures.range.1; length = c.in_ok-cells.ensures.len }
