use Rattle.std.proofs.Common.{◌≡◌, ℕ, ◌≤◌, ℤ, Option, Some, arith, ap, ◌∙◌}
use Rattle.std.proofs.lemmas.Int.{to_z-of_z}
use Rattle.dbm_matrix.specs.Bounds.{Bounds, at}
use Rattle.dbm_matrix.specs.Changes.{with_bound, lesser}
use Rattle.dbm_matrix.proofs.Grid.{put_bound}
use Rattle.dbm_matrix.proofs.Solving.{add_solves, solves_add}
use Rattle.dbm_matrix.proofs.matrix.Matrix.add_bound.Goals as goal
use Rattle.dbm_matrix.proofs.matrix.Matrix.add_bound.Goals.{After-put}

size : (c : After-put) → c.self.inside.size ≡ c.args.self.now.size
size c = ap (λ (m : Bounds). m.size) c.self.view_is

each : (c : After-put) (p q : ℕ) → p ≤ c.self.inside.size → q ≤ c.self.inside.size → at c.put.new.cells p q ≡ with_bound c.args.i c.args.j c.args.c (at c.self.inside.cells) p q
each c =
    let fits = c.ranges.c in
    let least = simp to_z-of_z at c.min-least.ensures.lesser in
    let here : c.min-least.result ≡ lesser (at c.self.inside.cells c.args.i c.args.j) (Some c.args.c) = least ∙ ap (λ (o : Option ℤ). lesser o (Some c.args.c)) c.get.ensures.value in
    rw c.put.ensures.cells (put_bound c.self.inside.cells c.self.inside.size c.args.i c.args.j c.args.c c.min-least.result c.self.invariant.2 (omega (arith, c.self.invariant)) (omega (arith, size c)) (omega (arith, size c)) here)

pub returns-clause-solutions : goal.returns-clause-solutions
returns-clause-solutions c =
    let r = (goal.at.returns-clause-solutions c).After-put in
    rw (← c.self.view_is) (λ v. (
      solves_add c.self.inside.size c.args.i c.args.j c.args.c (at c.self.inside.cells) (at c.put.new.cells) (omega (arith, size r)) (omega (arith, size r)) (each r) v,
      λ h. add_solves c.self.inside.size c.args.i c.args.j c.args.c (at c.self.inside.cells) (at c.put.new.cells) (omega (arith, size r)) (omega (arith, size r)) (each r) v h.0 h.1,
    ))
