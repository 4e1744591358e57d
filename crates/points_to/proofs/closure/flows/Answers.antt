use Rattle.points_to.proofs.closure.flows.Goals as goal

pub returns : goal.returns
returns c = rw (c.set_of.ensures, c.set_of-2.ensures) at c.is_within.ensures
