use Rattle.var_state.specs.Grids.{at}
use Rattle.var_state.proofs.Closed.{small}
use Rattle.var_state.proofs.Standing.{same_ranged, same_small}
use Rattle.var_state.proofs.opening.open_from.Goals as goal

pub returns-clause-ranged : goal.returns-clause-ranged
returns-clause-ranged c =
    same_ranged c.args.n (at c.args.closed.now) (at c.fill.new.cells.items) (λ p q pp qq. let e = c.fill.ensures.each p q pp qq in (cc)) c.requires.closed.ranged

pub returns-clause-small : goal.returns-clause-small
returns-clause-small c =
    same_small c.args.n (at c.args.closed.now) (at c.fill.new.cells.items) (λ p q pp qq. let e = c.fill.ensures.each p q pp qq in (cc)) (small c.args.n (at c.args.closed.now) c.requires.closed)
