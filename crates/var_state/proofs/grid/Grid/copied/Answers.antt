use Rattle.std.proofs.Common.{◌≡◌, ℕ, ap, subst}
use Rattle.var_state.specs.Grids.{Raw, at, IsSound}
use Rattle.var_state.proofs.Closed.{same_sound}
use Rattle.var_state.proofs.grid.Grid.copied.Goals as goal

pub returns : goal.returns
returns c =
    let s : c.self.inside.size ≡ c.args.self.now.size = ap (λ (m : Raw). m.size) c.self.view_is in
    let sound = subst (λ (n : ℕ). IsSound n (at c.self.inside.cells.items)) s c.self.invariant.1 in
    record { sound = same_sound c.args.self.now.size (at c.self.inside.cells.items) (at c.copied.result) (λ i j ii jj. c.copied.ensures.each i j) sound }
