use Rattle.dbm_matrix.specs.Bounds.{at}
use Rattle.dbm_matrix.proofs.Solving.{no_solution, closure_solves, solves_closure, closure_ranged}
use Rattle.dbm_matrix.proofs.Magnitudes.{closed_within}
use Rattle.dbm_matrix.proofs.matrix.Matrix.close.Goals as goal

pub returns-clause-closure : goal.returns-clause-closure
returns-clause-closure c = rw (← c.self.view_is) c.close.ensures.feasible

pub returns-clause-empty : goal.returns-clause-empty
returns-clause-empty c = rw (← c.self.view_is) c.close.ensures.empty

pub returns-clause-solutions : goal.returns-clause-solutions
returns-clause-solutions c = rw (← c.self.view_is) (λ e v. (
  solves_closure c.self.inside.size (at c.self.inside.cells) (at c.close.new.cells) (c.close.ensures.feasible e) v,
  closure_solves c.self.inside.size (at c.self.inside.cells) (at c.close.new.cells) (c.close.ensures.feasible e) v,
))

pub returns-clause-no_solution : goal.returns-clause-no_solution
returns-clause-no_solution c = rw (← c.self.view_is) (λ e. no_solution c.self.inside.size (at c.self.inside.cells) (c.close.ensures.empty.0 e))

pub returns-clause-ranged : goal.returns-clause-ranged
returns-clause-ranged c = rw (← c.self.view_is) (λ e. closure_ranged c.self.inside.size (at c.self.inside.cells) (at c.close.new.cells) (c.close.ensures.feasible e))

pub returns-clause-within : goal.returns-clause-within
returns-clause-within c = rw (← c.self.view_is) (λ e b r. closed_within c.self.inside.size (at c.close.new.cells) b (c.close.ensures.closed e)
    (closure_ranged c.self.inside.size (at c.self.inside.cells) (at c.close.new.cells) (c.close.ensures.feasible e) b r))
