use Rattle.std.proofs.Common.{◌≡◌, ℕ, ℤ, List, ◌∷◌, arith, subst}
use mir.Syntax.{w128}
use Rattle.std.proofs.lemmas.Int.{to_z-of_z}
use Rattle.dbm_matrix.proofs.Options.{small}
use Rattle.dbm_incremental.specs.Adding.{AllFit}
use Rattle.dbm_incremental.proofs.Together.{added_next, all_added, nothing_left}
use Rattle.dbm_incremental.proofs.pending.add_all.Goals as goal

pub loop-i-preserved : goal.loop-i-preserved
loop-i-preserved c =
    let first = c.in-Some.field-0-0.now in
    let next : c.loop-i.rest.now ≡ c.in-Some.field-0-0.now ∷ c.in-Some.tail.now = c.in-Some.ensures.cases.0 in
    let fit : AllFit c.args.m.now.size (c.in-Some.field-0-0.now ∷ c.in-Some.tail.now) = subst (λ (xs : List (ℕ × ℕ × ℤ)). AllFit c.args.m.now.size xs) next c.loop-i.invariant.fit in
    let same = to_z-of_z w128 c.in-Some.field-0-0.now.2 (small c.in-Some.field-0-0.now.2 (omega (arith, fit.0.3))) in
    let bounds = simp same at c.add_bound.ensures.bounds in
    let within = simp same at c.add_bound.ensures.within in
    let solutions = simp same at c.add_bound.ensures.solutions in
    added_next c.args.bounds.now c.loop-i.rest.now c.in-Some.tail.now c.args.m.now c.loop-i.m c.add_bound.new.self first.0 first.1 first.2 c.loop-i.invariant next
    c.add_bound.ensures.size bounds within c.add_bound.ensures.ranged solutions

pub returns-clause-solutions : goal.returns-clause-solutions
returns-clause-solutions c = all_added c.args.bounds.now c.args.m.now c.loop-i.m c.loop-i.rest.now (nothing_left c.loop-i.rest.now c.in_default.ensures.cases) c.loop-i.invariant
