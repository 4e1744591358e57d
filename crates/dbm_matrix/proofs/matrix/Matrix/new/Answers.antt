use Rattle.std.proofs.Common.{◌≡◌, ℕ, ◌≤◌, length, refl}
use Rattle.dbm_matrix.specs.Bounds.{at}
use Rattle.dbm_matrix.specs.Changes.{initial}
use Rattle.dbm_matrix.proofs.Solving.{new_within, new_ranged, new_solves, solves_new}
use Rattle.dbm_matrix.proofs.matrix.Matrix.new.Goals as goal
use Rattle.dbm_matrix.proofs.matrix.Matrix.new.Goals.{After-revise}

each : (c : After-revise) (i j : ℕ) → i ≤ length c.args.ranges.now → j ≤ length c.args.ranges.now → at c.revise.new.cells i j ≡ initial c.args.ranges.now i j
each c i j ii jj = (c.revise.ensures.each i j ii jj).1

pub returns-clause-bounds : goal.returns-clause-bounds
returns-clause-bounds c = each (goal.at.returns-clause-bounds c).After-revise

pub returns-clause-within : goal.returns-clause-within
returns-clause-within c = new_within (length c.args.ranges.now) c.args.ranges.now (at c.revise.new.cells) refl (each (goal.at.returns-clause-within c).After-revise)

pub returns-clause-ranged : goal.returns-clause-ranged
returns-clause-ranged c = new_ranged (length c.args.ranges.now) c.args.ranges.now (at c.revise.new.cells) refl (each (goal.at.returns-clause-ranged c).After-revise)

pub returns-clause-solutions : goal.returns-clause-solutions
returns-clause-solutions c = λ v. (
  solves_new (length c.args.ranges.now) c.args.ranges.now (at c.revise.new.cells) refl (each (goal.at.returns-clause-solutions c).After-revise) v,
  new_solves (length c.args.ranges.now) c.args.ranges.now (at c.revise.new.cells) refl (each (goal.at.returns-clause-solutions c).After-revise) v,
)
