use Rattle.std.proofs.Common.{◌≡◌, ℕ, subst, arith}
use Rattle.var_state.specs.Grids.{at, IsSound}
use Rattle.var_state.proofs.Closed.{same_sound}
use Rattle.var_state.proofs.grid.Grid.join.Goals as goal

pub join-requires-clause-other_sound : goal.join-requires-clause-other_sound
join-requires-clause-other_sound c =
    let s : c.other.inside.size ≡ c.self.inside.size = omega arith in
    let sound = subst (λ (n : ℕ). IsSound n (at c.other.inside.cells.items)) s c.other.invariant.1 in
    same_sound c.self.inside.size (at c.other.inside.cells.items) (at c.copied.result) (λ i j ii jj. c.copied.ensures.each i j) sound
