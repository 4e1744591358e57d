use Rattle.std.proofs.Common.{◌≡◌, ℕ, ◌≤◌, None, arith, ap, sym, subst}
use Rattle.dbm_matrix.specs.Bounds.{Bounds, at, bound}
use Rattle.dbm_matrix.specs.Changes.{forgotten}
use Rattle.dbm_matrix.specs.Paths.{IsClosed}
use Rattle.dbm_matrix.proofs.Assigning.{all_around, stays_apart, forget_closed, forget_within, forget_solves}
use Rattle.dbm_matrix.proofs.Choosing.{solved}
use Rattle.dbm_matrix.proofs.matrix.Matrix.forget.Goals as goal
use Rattle.dbm_matrix.proofs.matrix.Matrix.forget.Goals.{After-revise_around}

size : (c : After-revise_around) → c.self.inside.size ≡ c.args.self.now.size
size c = ap (λ (m : Bounds). m.size) c.self.view_is

each : (c : After-revise_around) (i j : ℕ) → i ≤ c.self.inside.size → j ≤ c.self.inside.size → at c.revise_around.new.cells i j ≡ forgotten c.args.v (at c.self.inside.cells) i j
each c = all_around c.self.inside.size c.args.v (λ i j o. None) (at c.self.inside.cells) (at c.revise_around.new.cells) (omega (arith, size c))
    (λ k kk n. (c.revise_around.ensures.to k kk n).1) (λ k kk n. (c.revise_around.ensures.from k kk n).1) c.revise_around.ensures.here
    (λ i j jj m n. c.revise_around.ensures.others i j (omega (arith, c.self.invariant)) m n)

pub returns-clause-bounds : goal.returns-clause-bounds
returns-clause-bounds c = rw (← c.self.view_is) (each (goal.at.returns-clause-bounds c).After-revise_around)

pub returns-clause-closed : goal.returns-clause-closed
returns-clause-closed c =
    forget_closed c.self.inside.size c.args.v (at c.self.inside.cells) (at c.revise_around.new.cells) (each (goal.at.returns-clause-closed c).After-revise_around)
    (subst (λ (m : Bounds). IsClosed m.size (bound m)) (sym c.self.view_is) c.requires.closed)

pub returns-clause-within : goal.returns-clause-within
returns-clause-within c = rw (← c.self.view_is)
    (forget_within c.self.inside.size c.args.v (at c.self.inside.cells) (at c.revise_around.new.cells) (each (goal.at.returns-clause-within c).After-revise_around))

pub returns-clause-solutions : goal.returns-clause-solutions
returns-clause-solutions c = rw (← c.self.view_is)
    (forget_solves c.self.inside.size c.args.v (at c.self.inside.cells) (at c.revise_around.new.cells) (each (goal.at.returns-clause-solutions c).After-revise_around) c.requires.place.0)

pub returns-clause-no_more : goal.returns-clause-no_more
returns-clause-no_more c =
    let r = (goal.at.returns-clause-no_more c).After-revise_around in
    let d = at c.self.inside.cells in
    let e = at c.revise_around.new.cells in
    let closed = subst (λ (m : Bounds). IsClosed m.size (bound m)) (sym c.self.view_is) c.requires.closed in
    rw (← c.self.view_is)
    (λ w s. solved c.self.inside.size c.args.v d e (omega (arith, size r)) closed (stays_apart c.self.inside.size c.args.v (λ i j o. None) d e (each r)) w s c.requires.place.0)
