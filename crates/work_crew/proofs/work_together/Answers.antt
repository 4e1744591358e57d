use Rattle.std.proofs.Common.{◌∙◌, ap}
use Rattle.tables.specs.declared.opening.Opening.{Opening}
use Rattle.work_crew.proofs.work_together.Goals as goal

pub run-requires-after_bounds : goal.run-requires-after_bounds
run-requires-after_bounds g c κs within = λ k d below.
    (let seat = c.in-Ok-posts.ensures.all k d below in
    (seat.0, ap (λ (o : Opening g.row.D.Denot g.row.W.Denot). o.work.value) (seat.1 ∙ c.in-Ok.ensures.ok.1) ∙ c.requires.work))
