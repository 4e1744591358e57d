use Rattle.std.proofs.Common.{◌≡◌, ℕ, ◌≤◌, ap, ◌∙◌}
use Rattle.dbm_matrix.specs.Bounds.{Bounds, at, bound}
use Rattle.dbm_matrix.specs.Changes.{stable}
use Rattle.dbm_matrix.proofs.Merging.{widen_within, widen_first, widen_second}
use Rattle.dbm_matrix.proofs.matrix.Matrix.widen.Goals as goal
use Rattle.dbm_matrix.proofs.matrix.Matrix.widen.Goals.{After-revise}

same : (c : After-revise) → c.self.inside.size ≡ c.args.other.now.size
same c = ap (λ (m : Bounds). m.size) c.self.view_is ∙ c.requires.size

each : (c : After-revise) (i j : ℕ) → i ≤ c.self.inside.size → j ≤ c.self.inside.size → at c.revise.new.cells i j ≡ stable (at c.self.inside.cells i j) (bound c.args.other.now i j)
each c i j ii jj = (c.revise.ensures.each i j ii jj).1

pub returns-clause-bounds : goal.returns-clause-bounds
returns-clause-bounds c = rw (← c.self.view_is) (each (goal.at.returns-clause-bounds c).After-revise)

pub returns-clause-within : goal.returns-clause-within
returns-clause-within c =
    let r = (goal.at.returns-clause-within c).After-revise in
    rw (← c.self.view_is) (widen_within c.self.inside.size c.args.other.now.size (at c.self.inside.cells) (bound c.args.other.now) (at c.revise.new.cells) (same r) (each r))

pub returns-clause-solutions : goal.returns-clause-solutions
returns-clause-solutions c =
    let r = (goal.at.returns-clause-solutions c).After-revise in
    rw (← c.self.view_is) (widen_first c.self.inside.size c.args.other.now.size (at c.self.inside.cells) (bound c.args.other.now) (at c.revise.new.cells) (same r) (each r))

pub returns-clause-other_solutions : goal.returns-clause-other_solutions
returns-clause-other_solutions c =
    let r = (goal.at.returns-clause-other_solutions c).After-revise in
    widen_second c.self.inside.size c.args.other.now.size (at c.self.inside.cells) (bound c.args.other.now) (at c.revise.new.cells) (same r) (each r)
