use Rattle.var_state.specs.Grids.{at}
use Rattle.var_state.proofs.Closed.{same_sound}
use Rattle.var_state.proofs.changes.copy_from.Goals as goal

pub returns-clause-sound : goal.returns-clause-sound
returns-clause-sound c =
    same_sound c.args.n (at c.args.other.now) (at c.fill.new.cells.items) (λ p q pp qq. let e = c.fill.ensures.each p q pp qq in (cc)) c.requires.other_sound
