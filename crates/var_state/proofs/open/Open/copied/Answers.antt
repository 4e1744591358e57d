use Rattle.std.proofs.Common.{◌≡◌, ℕ, ap, subst}
use Rattle.var_state.specs.Grids.{Raw, at, IsRanged}
use Rattle.var_state.proofs.Standing.{same_ranged}
use Rattle.var_state.proofs.open.Open.copied.Goals as goal

pub returns-clause-ranged : goal.returns-clause-ranged
returns-clause-ranged c =
    let s : c.self.inside.size ≡ c.args.self.now.size = ap (λ (m : Raw). m.size) c.self.view_is in
    let ranged = subst (λ (n : ℕ). IsRanged n (at c.self.inside.cells.items)) s c.self.invariant.1 in
    same_ranged c.args.self.now.size (at c.self.inside.cells.items) (at c.copied.result) (λ i j ii jj. c.copied.ensures.each i j) ranged
