use Rattle.std.proofs.Common.{◌≡◌, ℕ, ◌≤◌, ◌^◌, None, slice_index_or, ap, arith, sym, ◌∙◌, subst}
use Rattle.std.proofs.lemmas.Int.{to_z-of_z}
use Rattle.dbm_matrix.specs.Bounds.{Bounds, at, bound, IsWithin}
use Rattle.dbm_matrix.specs.Changes.{over}
use Rattle.dbm_matrix.proofs.Options.{plus_small}
use Rattle.dbm_matrix.proofs.Relaxing.{relax_within, relax_ranged, relax_solves, solves_relaxed}
use Rattle.dbm_matrix.proofs.matrix.Matrix.relax_over.Goals as goal
use Rattle.dbm_matrix.proofs.matrix.Matrix.relax_over.Goals.{After-revise}

size : (c : After-revise) → c.self.inside.size ≡ c.args.self.now.size
size c = ap (λ (m : Bounds). m.size) c.self.view_is

each : (c : After-revise) (p q : ℕ) → p ≤ c.self.inside.size → q ≤ c.self.inside.size → at c.revise.new.cells p q ≡ over c.args.i c.args.j c.args.c (at c.self.inside.cells) p q
each c p q pp qq =
    let fits = c.ranges.c in
    let to = simp to_z-of_z at c.column_plus-to.ensures.each in
    rw (← to p pp, ← c.row-from.ensures.each q qq) (c.revise.ensures.each p q pp qq).1

pub revise-requires-clause-f : goal.revise-requires-clause-f
revise-requires-clause-f c = λ p q pp qq.
    let fits = c.ranges.c in
    let to = simp to_z-of_z at c.column_plus-to.ensures.each in
    let within : IsWithin (2 ^ 124) c.self.inside.size (at c.self.inside.cells) = subst (λ (m : Bounds). IsWithin (2 ^ 124) m.size (bound m)) (sym c.self.view_is) c.requires.within in
    let size : c.self.inside.size ≡ c.args.self.now.size = ap (λ (m : Bounds). m.size) c.self.view_is in (
      omega (arith, c.self.invariant, pp),
      omega (arith, c.self.invariant, qq),
      plus_small (at c.self.inside.cells p c.args.i) (slice_index_or c.column_plus-to.result p None) c.args.c (to p pp) (λ x h. within.each p c.args.i x pp (omega (arith, size)) h) c.requires.small,
      λ x h. omega (arith, within.each c.args.j q x (omega (arith, size)) qq (sym (c.row-from.ensures.each q qq) ∙ h)),
    )

pub returns-clause-bounds : goal.returns-clause-bounds
returns-clause-bounds c = rw (← c.self.view_is) (each (goal.at.returns-clause-bounds c).After-revise)

pub returns-clause-within : goal.returns-clause-within
returns-clause-within c =
    let r = (goal.at.returns-clause-within c).After-revise in
    rw (← c.self.view_is) (relax_within c.self.inside.size c.args.i c.args.j c.args.c (at c.self.inside.cells) (at c.revise.new.cells) (omega (arith, size r)) (omega (arith, size r)) (each r))

pub returns-clause-ranged : goal.returns-clause-ranged
returns-clause-ranged c =
    let r = (goal.at.returns-clause-ranged c).After-revise in
    rw (← c.self.view_is) (relax_ranged c.self.inside.size c.args.i c.args.j c.args.c (at c.self.inside.cells) (at c.revise.new.cells) (omega (arith, size r)) (omega (arith, size r)) (each r))

pub returns-clause-solutions : goal.returns-clause-solutions
returns-clause-solutions c =
    let r = (goal.at.returns-clause-solutions c).After-revise in
    rw (← c.self.view_is) (relax_solves c.self.inside.size c.args.i c.args.j c.args.c (at c.self.inside.cells) (at c.revise.new.cells) (omega (arith, size r)) (omega (arith, size r)) (each r))

pub returns-clause-no_more : goal.returns-clause-no_more
returns-clause-no_more c =
    let r = (goal.at.returns-clause-no_more c).After-revise in
    rw (← c.self.view_is) (solves_relaxed c.self.inside.size c.args.i c.args.j c.args.c (at c.self.inside.cells) (at c.revise.new.cells) (omega (arith, size r)) (omega (arith, size r)) (each r))
