use Rattle.std.proofs.Common.{ℕ, take, sym, subst}
use Rattle.dbm_matrix.specs.Bounds.{bound}
use Rattle.dbm_matrix.specs.Paths.{IsClosureOf, HasNegativeCycle}
use Rattle.dbm_incremental.specs.Adding.{with_bounds}
use Rattle.dbm_incremental.proofs.Together.{closure_same, cycle_same, cycle_back}
use Rattle.dbm_incremental.proofs.pending.Pending.flush.Goals as goal

pub returns-clause-closure : goal.returns-clause-closure
returns-clause-closure c = rw (← c.self.view_is) (λ e. closure_same c.args.m.now.size (bound c.add_all.new.m) (with_bounds (take c.self.inside.count c.self.inside.bounds) (bound c.args.m.now)) (bound c.close.new.self)
    c.add_all.ensures.bounds (subst (λ (n : ℕ). IsClosureOf n (bound c.add_all.new.m) (bound c.close.new.self)) c.add_all.ensures.size (c.close.ensures.closure e)))

pub returns-clause-empty : goal.returns-clause-empty
returns-clause-empty c = rw (← c.self.view_is) (
  (λ e. cycle_same c.args.m.now.size (bound c.add_all.new.m) (with_bounds (take c.self.inside.count c.self.inside.bounds) (bound c.args.m.now)) c.add_all.ensures.bounds
      (subst (λ (n : ℕ). HasNegativeCycle n (bound c.add_all.new.m)) c.add_all.ensures.size (c.close.ensures.empty.0 e))),
  (λ h. c.close.ensures.empty.1 (subst (λ (n : ℕ). HasNegativeCycle n (bound c.add_all.new.m)) (sym c.add_all.ensures.size)
      (cycle_back c.args.m.now.size (bound c.add_all.new.m) (with_bounds (take c.self.inside.count c.self.inside.bounds) (bound c.args.m.now)) c.add_all.ensures.bounds h))),
)

pub returns-clause-solutions : goal.returns-clause-solutions
returns-clause-solutions c = rw (← c.self.view_is) (λ e v. (
  (λ s. (c.add_all.ensures.solutions v).0 ((c.close.ensures.solutions e v).0 s)),
  (λ h. (c.close.ensures.solutions e v).1 ((c.add_all.ensures.solutions v).1 h)),
))

pub returns-clause-no_solution : goal.returns-clause-no_solution
returns-clause-no_solution c = rw (← c.self.view_is) (λ e v s m. c.close.ensures.no_solution e v ((c.add_all.ensures.solutions v).1 (s, m)))
