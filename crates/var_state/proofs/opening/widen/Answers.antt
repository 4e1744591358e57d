use Rattle.std.proofs.Common.{◌≡◌, ℕ, ◌≤◌}
use Rattle.var_state.specs.Grids.{at}
use Rattle.var_state.proofs.Closed.{small}
use Rattle.var_state.proofs.Standing.{same_ranged, same_small, kept_or, kept_ranged, kept_small}
use Rattle.var_state.proofs.opening.widen.Goals as goal
use Rattle.var_state.proofs.opening.widen.Goals.{After-fill}

same : (c : After-fill) (p q : ℕ) → p ≤ c.args.n → q ≤ c.args.n → at c.fill.new.cells.items p q ≡ kept_or (at c.args.cells.now.items) (at c.args.next.now) (at c.args.top.now) p q
same c p q pp qq = let e = c.fill.ensures.each p q pp qq in let x = c.copied-old.ensures.each p q in cc

pub returns-clause-ranged : goal.returns-clause-ranged
returns-clause-ranged c =
    same_ranged c.args.n (kept_or (at c.args.cells.now.items) (at c.args.next.now) (at c.args.top.now)) (at c.fill.new.cells.items) (same (goal.at.returns-clause-ranged c).After-fill)
    (kept_ranged c.args.n (at c.args.cells.now.items) (at c.args.next.now) (at c.args.top.now) c.requires.ranged c.requires.top.ranged)

pub returns-clause-small : goal.returns-clause-small
returns-clause-small c =
    same_small c.args.n (kept_or (at c.args.cells.now.items) (at c.args.next.now) (at c.args.top.now)) (at c.fill.new.cells.items) (same (goal.at.returns-clause-small c).After-fill)
    (kept_small c.args.n (at c.args.cells.now.items) (at c.args.next.now) (at c.args.top.now) c.requires.small (small c.args.n (at c.args.top.now) c.requires.top))
