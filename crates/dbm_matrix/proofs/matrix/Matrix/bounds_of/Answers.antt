use Rattle.std.proofs.Common.{◌≡◌, neg_ℤ, Some, sym, ◌∙◌, arith, zero-le}
use mir.Syntax.{w128}
use Rattle.std.proofs.lemmas.Int.{ints, to_z-of_z}
use Rattle.dbm_matrix.specs.Bounds.{bound}
use Rattle.dbm_matrix.proofs.Options.{small}
use Rattle.dbm_matrix.proofs.Solving.{in_bounds}
use Rattle.dbm_matrix.proofs.matrix.Matrix.bounds_of.Goals as goal

pub returns-clause-solutions : goal.returns-clause-solutions
returns-clause-solutions c = λ w s.
    let l = c.in-Some-Some.low in
    let h = c.in-Some-Some.high in
    let low_is : bound c.args.self.now c.args.v 0 ≡ Some l = sym c.bound.ensures.bound ∙ c.in-Some-Some.is-0 in
    let high_is : bound c.args.self.now 0 c.args.v ≡ Some h = sym c.bound-2.ensures.bound ∙ c.in-Some-Some.is-1 in
    let low_small = c.requires.within.each c.args.v 0 l c.requires.place zero-le low_is in
    let high_small = c.requires.within.each 0 c.args.v h zero-le c.requires.place high_is in
    rw (c.negated.ensures.value, to_z-of_z w128 l (small l (omega (arith, ints, low_small))), to_z-of_z w128 (neg_ℤ l) (small (neg_ℤ l) (omega (arith, ints, low_small))), to_z-of_z w128 h (small h (omega (arith, ints, high_small))))
    (in_bounds c.args.self.now.size (bound c.args.self.now) c.args.v l h w c.requires.place low_is high_is s)
