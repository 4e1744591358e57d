use Rattle.std.proofs.Common.{◌∙◌}
use Rattle.std.proofs.lemmas.Result.{on_ok_weaker}
use Rattle.points_to.proofs.Demanding.{listed_sources}
use Rattle.points_to.proofs.reacting.copy_to.Goals as goal

pub returns : goal.returns
returns c =
    on_ok_weaker c.take_objects.result
    (listed_sources c.args.classes.now c.args.constraint.third c.args.member c.args.found.now.done.items c.args.constraint.source c.index.result.now c.deref.result.now
    c.args.found.now c.take_objects.new.found c.requires.source c.index.ensures (c.deref.ensures.value ∙ c.in_ok-sources.ensures.members))
    c.take_objects.ensures
