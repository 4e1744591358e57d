use Rattle.var_state.specs.Grids.{at}
use Rattle.var_state.proofs.Closed.{same_sound}
use Rattle.var_state.proofs.Standing.{standing, standing_sound}
use Rattle.dbm_matrix.specs.Bounds.{bound}
use Rattle.var_state.proofs.closing.read_back.Goals as goal

pub returns-clause-sound : goal.returns-clause-sound
returns-clause-sound c =
    same_sound c.args.n (standing c.args.n (bound c.args.m.now) c.requires.closed c.requires.ranged) (at c.fill.new.cells.items) (λ p q pp qq. let e = c.fill.ensures.each p q pp qq in (cc))
    (standing_sound c.args.n (bound c.args.m.now) c.requires.closed c.requires.ranged)
