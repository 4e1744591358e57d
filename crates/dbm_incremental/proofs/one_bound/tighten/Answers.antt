use Rattle.std.proofs.Common.{◌≡◌, ℕ, ℤ, pos, ◌+ℤ◌, ◌≤ℤ◌, Some, IsTrue, true, refl, sym, ◌∙◌, subst}
use Rattle.std.proofs.lemmas.Int.{by_lt_z, to_z-of_z}
use Rattle.dbm_matrix.specs.Bounds.{bound}
use Rattle.dbm_matrix.specs.Paths.{IsClosed}
use Rattle.dbm_matrix.specs.Changes.{with_bound}
use Rattle.dbm_matrix.proofs.Paths.{IsBetween, between_closure, between_no_cycle}
use Rattle.dbm_matrix.proofs.Magnitudes.{closed_within}
use Rattle.dbm_matrix.proofs.Solving.{no_solution, solves_closure, add_solves, solves_add}
use Rattle.dbm_incremental.proofs.Tightening.{tight_between, tight_cycle}
use Rattle.dbm_incremental.proofs.one_bound.tighten.Goals as goal
use Rattle.dbm_incremental.proofs.one_bound.tighten.Goals.{After-relax_over}

back : (c : After-relax_over) (b : ℤ) → bound c.args.m.now c.args.j c.args.i ≡ Some b → pos 0 ≤ℤ (b +ℤ c.args.c)
back c b e =
    let fits = c.ranges.c in
    let negative = simp to_z-of_z at c.is_negative.ensures.negative in
    by_lt_z (b +ℤ c.args.c) (pos 0)
    (λ less. absurd (let t : IsTrue c.is_negative.result = negative.1 (b, c.bound.ensures.bound ∙ e, less) in let u : c.is_negative.result ≡ true = t in cc))
    (λ more. more)

between : (c : After-relax_over) → IsBetween c.args.m.now.size (with_bound c.args.i c.args.j c.args.c (bound c.args.m.now)) (bound c.relax_over.new.self)
between c =
    let fits = c.ranges.c in
    let bounds = simp to_z-of_z at c.relax_over.ensures.bounds in
    tight_between c.args.m.now.size c.args.i c.args.j c.args.c (bound c.args.m.now) (bound c.relax_over.new.self) c.requires.places.0 c.requires.places.1 c.requires.closed bounds (back c) c.requires.places.2

closed : (c : After-relax_over) → IsClosed c.relax_over.new.self.size (bound c.relax_over.new.self)
closed c = subst (λ (n : ℕ). IsClosed n (bound c.relax_over.new.self)) (sym c.relax_over.ensures.size) (between c).closed

pub returns-then-is_negative-clause-empty : goal.returns-then-is_negative-clause-empty
returns-then-is_negative-clause-empty c =
    let fits = c.ranges.c in
    let negative = simp to_z-of_z at c.is_negative.ensures.negative in
    let t = negative.0 c.if-is_negative.true in (
      λ _. tight_cycle c.args.m.now.size c.args.i c.args.j c.args.c t.0 (bound c.args.m.now) c.requires.places.0 c.requires.places.1 c.requires.places.2 (sym c.bound.ensures.bound ∙ t.1) t.2,
      λ _. refl,
    )

pub returns-then-is_negative-clause-no_solution : goal.returns-then-is_negative-clause-no_solution
returns-then-is_negative-clause-no_solution c =
    let fits = c.ranges.c in
    let negative = simp to_z-of_z at c.is_negative.ensures.negative in
    let t = negative.0 c.if-is_negative.true in
    λ _ v s m. no_solution c.args.m.now.size (with_bound c.args.i c.args.j c.args.c (bound c.args.m.now))
    (tight_cycle c.args.m.now.size c.args.i c.args.j c.args.c t.0 (bound c.args.m.now) c.requires.places.0 c.requires.places.1 c.requires.places.2 (sym c.bound.ensures.bound ∙ t.1) t.2) v
    (add_solves c.args.m.now.size c.args.i c.args.j c.args.c (bound c.args.m.now) (with_bound c.args.i c.args.j c.args.c (bound c.args.m.now)) c.requires.places.0 c.requires.places.1 (λ p q pp qq. refl) v s m)

pub returns-clause-closure : goal.returns-clause-closure
returns-clause-closure c = λ _. between_closure c.args.m.now.size (with_bound c.args.i c.args.j c.args.c (bound c.args.m.now)) (bound c.relax_over.new.self) (between (goal.at.returns-clause-closure c).After-relax_over)

pub returns-clause-empty : goal.returns-clause-empty
returns-clause-empty c = (
  λ e. absurd (cc),
  λ h. absurd (between_no_cycle c.args.m.now.size (with_bound c.args.i c.args.j c.args.c (bound c.args.m.now)) (bound c.relax_over.new.self) (between (goal.at.returns-clause-empty c).After-relax_over) h),
)

pub returns-clause-closed : goal.returns-clause-closed
returns-clause-closed c = λ _. closed (goal.at.returns-clause-closed c).After-relax_over

pub returns-clause-solutions : goal.returns-clause-solutions
returns-clause-solutions c = λ _ v. (
  (λ s.
      let r = (goal.at.returns-clause-solutions c).After-relax_over in
      solves_add c.args.m.now.size c.args.i c.args.j c.args.c (bound c.args.m.now) (with_bound c.args.i c.args.j c.args.c (bound c.args.m.now)) c.requires.places.0 c.requires.places.1 (λ p q pp qq. refl) v
      (solves_closure c.args.m.now.size (with_bound c.args.i c.args.j c.args.c (bound c.args.m.now)) (bound c.relax_over.new.self)
      (between_closure c.args.m.now.size (with_bound c.args.i c.args.j c.args.c (bound c.args.m.now)) (bound c.relax_over.new.self) (between r)) v (rw (← c.relax_over.ensures.size) s))),
  (λ h. c.relax_over.ensures.solutions v h.0 (let fits = c.ranges.c in simp to_z-of_z h.1)),
)

pub returns-clause-within : goal.returns-clause-within
returns-clause-within c = λ _ b r. closed_within c.relax_over.new.self.size (bound c.relax_over.new.self) b (closed (goal.at.returns-clause-within c).After-relax_over) (c.relax_over.ensures.ranged b r)
