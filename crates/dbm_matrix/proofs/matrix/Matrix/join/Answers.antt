use Rattle.std.proofs.Common.{◌≡◌, ℕ, ◌≤◌, ap, ◌∙◌, sym, subst}
use Rattle.dbm_matrix.specs.Bounds.{Bounds, at, bound}
use Rattle.dbm_matrix.specs.Changes.{greater}
use Rattle.dbm_matrix.specs.Paths.{IsClosed}
use Rattle.dbm_matrix.proofs.Merging.{join_closed, join_within, join_ranged, join_first, join_second}
use Rattle.dbm_matrix.proofs.matrix.Matrix.join.Goals as goal
use Rattle.dbm_matrix.proofs.matrix.Matrix.join.Goals.{After-revise}

same : (c : After-revise) → c.self.inside.size ≡ c.args.other.now.size
same c = ap (λ (m : Bounds). m.size) c.self.view_is ∙ c.requires.size

each : (c : After-revise) (i j : ℕ) → i ≤ c.self.inside.size → j ≤ c.self.inside.size → at c.revise.new.cells i j ≡ greater (at c.self.inside.cells i j) (bound c.args.other.now i j)
each c i j ii jj = (c.revise.ensures.each i j ii jj).1

pub returns-clause-bounds : goal.returns-clause-bounds
returns-clause-bounds c = rw (← c.self.view_is) (each (goal.at.returns-clause-bounds c).After-revise)

pub returns-clause-closed : goal.returns-clause-closed
returns-clause-closed c =
    let r = (goal.at.returns-clause-closed c).After-revise in
    join_closed c.self.inside.size c.args.other.now.size (at c.self.inside.cells) (bound c.args.other.now) (at c.revise.new.cells) (same r) (each r) (subst (λ (m : Bounds). IsClosed m.size (bound m)) (sym c.self.view_is) c.requires.closed) c.requires.other_closed

pub returns-clause-within : goal.returns-clause-within
returns-clause-within c =
    let r = (goal.at.returns-clause-within c).After-revise in
    rw (← c.self.view_is) (join_within c.self.inside.size c.args.other.now.size (at c.self.inside.cells) (bound c.args.other.now) (at c.revise.new.cells) (same r) (each r))

pub returns-clause-ranged : goal.returns-clause-ranged
returns-clause-ranged c =
    let r = (goal.at.returns-clause-ranged c).After-revise in
    rw (← c.self.view_is) (join_ranged c.self.inside.size c.args.other.now.size (at c.self.inside.cells) (bound c.args.other.now) (at c.revise.new.cells) (same r) (each r))

pub returns-clause-solutions : goal.returns-clause-solutions
returns-clause-solutions c =
    let r = (goal.at.returns-clause-solutions c).After-revise in
    rw (← c.self.view_is) (join_first c.self.inside.size c.args.other.now.size (at c.self.inside.cells) (bound c.args.other.now) (at c.revise.new.cells) (same r) (each r))

pub returns-clause-other_solutions : goal.returns-clause-other_solutions
returns-clause-other_solutions c =
    let r = (goal.at.returns-clause-other_solutions c).After-revise in
    join_second c.self.inside.size c.args.other.now.size (at c.self.inside.cells) (bound c.args.other.now) (at c.revise.new.cells) (same r) (each r)
