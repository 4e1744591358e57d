use Rattle.measure.proofs.points.solved.Goals as goal

pub solve-requires : goal.solve-requires
solve-requires c = c.fits.ensures.0 c.if-not-fits.false
