use Rattle.std.proofs.Common.{◌≡◌, ℕ, ◌≤◌, ℤ, neg_ℤ, Option, Some, None, cond, eqb, arith, ap, sym, subst}
use Rattle.std.proofs.lemmas.Int.{to_z-of_z}
use Rattle.dbm_matrix.specs.Bounds.{Bounds, at, bound}
use Rattle.dbm_matrix.specs.Changes.{copied}
use Rattle.dbm_matrix.specs.Paths.{IsClosed}
use Rattle.dbm_matrix.proofs.Assigning.{all_around, stays_apart, copy_within, copy_solves, copy_equal}
use Rattle.dbm_matrix.proofs.Choosing.{solved}
use Rattle.dbm_matrix.proofs.matrix.Matrix.copy.Goals as goal
use Rattle.dbm_matrix.proofs.matrix.Matrix.copy.Goals.{After-revise_around}

size : (c : After-revise_around) → c.self.inside.size ≡ c.args.self.now.size
size c = ap (λ (m : Bounds). m.size) c.self.view_is

each : (c : After-revise_around) (i j : ℕ) → i ≤ c.self.inside.size → j ≤ c.self.inside.size → at c.revise_around.new.cells i j ≡ copied c.args.to c.args.from c.args.c (at c.self.inside.cells) i j
each c =
    let fits = c.ranges.c in
    let to = simp to_z-of_z at c.revise_around.ensures.to in
    let from = simp to_z-of_z at c.revise_around.ensures.from in
    all_around c.self.inside.size c.args.to (λ i j o. cond (eqb i c.args.from) (Some c.args.c) (cond (eqb j c.args.from) (Some (neg_ℤ c.args.c)) None)) (at c.self.inside.cells) (at c.revise_around.new.cells) (omega (arith, size c))
    (λ k kk n. (to k kk n).1) (λ k kk n. (from k kk n).1) c.revise_around.ensures.here
    (λ i j jj m n. c.revise_around.ensures.others i j (omega (arith, c.self.invariant)) m n)

pub returns-clause-bounds : goal.returns-clause-bounds
returns-clause-bounds c = rw (← c.self.view_is) (each (goal.at.returns-clause-bounds c).After-revise_around)

pub returns-clause-within : goal.returns-clause-within
returns-clause-within c = rw (← c.self.view_is)
    (copy_within c.self.inside.size c.args.to c.args.from c.args.c (at c.self.inside.cells) (at c.revise_around.new.cells) c.requires.places.3 (each (goal.at.returns-clause-within c).After-revise_around))

pub returns-clause-solutions : goal.returns-clause-solutions
returns-clause-solutions c = rw (← c.self.view_is)
    (copy_solves c.self.inside.size c.args.to c.args.from c.args.c (at c.self.inside.cells) (at c.revise_around.new.cells) c.requires.places.3 (each (goal.at.returns-clause-solutions c).After-revise_around) c.requires.places.0)

pub returns-clause-equal : goal.returns-clause-equal
returns-clause-equal c =
    let r = (goal.at.returns-clause-equal c).After-revise_around in
    copy_equal c.self.inside.size c.args.to c.args.from c.args.c (at c.self.inside.cells) (at c.revise_around.new.cells) c.requires.places.3 (each r) (omega (arith, size r)) (omega (arith, size r))

pub returns-clause-no_more : goal.returns-clause-no_more
returns-clause-no_more c =
    let r = (goal.at.returns-clause-no_more c).After-revise_around in
    let d = at c.self.inside.cells in
    let e = at c.revise_around.new.cells in
    let f : ℕ → ℕ → Option ℤ → Option ℤ = λ i j o. cond (eqb i c.args.from) (Some c.args.c) (cond (eqb j c.args.from) (Some (neg_ℤ c.args.c)) None) in
    let closed = subst (λ (m : Bounds). IsClosed m.size (bound m)) (sym c.self.view_is) c.requires.closed in
    rw (← c.self.view_is)
    (λ w s. solved c.self.inside.size c.args.to d e (omega (arith, size r)) closed (stays_apart c.self.inside.size c.args.to f d e (each r)) w s c.requires.places.0)
