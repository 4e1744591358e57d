use Rattle.std.proofs.Common.{◌∙◌}
use Rattle.std.proofs.lemmas.Result.{on_ok_weaker}
use Rattle.points_to.proofs.Demanding.{listed_targets}
use Rattle.points_to.proofs.reacting.copy_from.Goals as goal

pub returns : goal.returns
returns c =
    on_ok_weaker c.give_objects.result
    (listed_targets c.args.classes.now c.args.constraint.third c.args.member c.args.found.now.done.items c.args.constraint.target c.index.result.now c.deref.result.now
    c.args.found.now c.give_objects.new.found c.requires.target c.index.ensures (c.deref.ensures.value ∙ c.in_ok-targets.ensures.members))
    c.give_objects.ensures
