use Rattle.std.proofs.Common.{◌≡◌, ℕ, ◌≤◌, neg_ℤ, cond, eqb, arith, ap, sym, subst}
use Rattle.std.proofs.lemmas.Int.{to_z-of_z}
use Rattle.dbm_matrix.specs.Bounds.{Bounds, at, bound}
use Rattle.dbm_matrix.specs.Changes.{shifted, plus}
use Rattle.dbm_matrix.specs.Paths.{IsClosed}
use Rattle.dbm_matrix.proofs.Assigning.{all_around, shift_closed, shift_within, shift_ranged, shift_solves, solves_shift}
use Rattle.dbm_matrix.proofs.matrix.Matrix.shift.Goals as goal
use Rattle.dbm_matrix.proofs.matrix.Matrix.shift.Goals.{After-revise_around}

size : (c : After-revise_around) → c.self.inside.size ≡ c.args.self.now.size
size c = ap (λ (m : Bounds). m.size) c.self.view_is

each : (c : After-revise_around) (i j : ℕ) → i ≤ c.self.inside.size → j ≤ c.self.inside.size → at c.revise_around.new.cells i j ≡ shifted c.args.v c.args.c (at c.self.inside.cells) i j
each c =
    let fits = c.ranges.c in
    let to = simp to_z-of_z at c.revise_around.ensures.to in
    let from = simp to_z-of_z at c.revise_around.ensures.from in
    all_around c.self.inside.size c.args.v (λ i j o. cond (eqb i c.args.v) (plus o (neg_ℤ c.args.c)) (plus o c.args.c)) (at c.self.inside.cells) (at c.revise_around.new.cells) (omega (arith, size c))
    (λ k kk n. (to k kk n).1) (λ k kk n. (from k kk n).1) c.revise_around.ensures.here
    (λ i j jj m n. c.revise_around.ensures.others i j (omega (arith, c.self.invariant)) m n)

pub returns-clause-bounds : goal.returns-clause-bounds
returns-clause-bounds c = rw (← c.self.view_is) (each (goal.at.returns-clause-bounds c).After-revise_around)

pub returns-clause-closed : goal.returns-clause-closed
returns-clause-closed c =
    shift_closed c.self.inside.size c.args.v c.args.c (at c.self.inside.cells) (at c.revise_around.new.cells) (each (goal.at.returns-clause-closed c).After-revise_around)
    (subst (λ (m : Bounds). IsClosed m.size (bound m)) (sym c.self.view_is) c.requires.closed)

pub returns-clause-within : goal.returns-clause-within
returns-clause-within c = rw (← c.self.view_is)
    (shift_within c.self.inside.size c.args.v c.args.c (at c.self.inside.cells) (at c.revise_around.new.cells) (each (goal.at.returns-clause-within c).After-revise_around))

pub returns-clause-ranged : goal.returns-clause-ranged
returns-clause-ranged c = rw (← c.self.view_is)
    (shift_ranged c.self.inside.size c.args.v c.args.c (at c.self.inside.cells) (at c.revise_around.new.cells) (each (goal.at.returns-clause-ranged c).After-revise_around))

pub returns-clause-solutions : goal.returns-clause-solutions
returns-clause-solutions c = rw (← c.self.view_is) (λ w. (
  shift_solves c.self.inside.size c.args.v c.args.c (at c.self.inside.cells) (at c.revise_around.new.cells) (each (goal.at.returns-clause-solutions c).After-revise_around) c.requires.place.0 w,
  solves_shift c.self.inside.size c.args.v c.args.c (at c.self.inside.cells) (at c.revise_around.new.cells) (each (goal.at.returns-clause-solutions c).After-revise_around) c.requires.place.0 w,
))
