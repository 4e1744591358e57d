use Rattle.std.proofs.Common.{get_or, refl}
use Rattle.points_to.specs.computed.RuleParts.{TakesObject}
use Rattle.points_to.proofs.Links.{object_lasts}
use Rattle.points_to.proofs.Steps.{front_more, front_all}
use Rattle.points_to.proofs.linking.give_objects.Goals as goal

pub loop-target-preserved : goal.loop-target-preserved
loop-target-preserved c =
    front_more (λ target flows gets. TakesObject c.args.classes.now flows c.args.layout target c.args.source) (λ target. object_lasts c.args.classes.now c.args.layout target c.args.source) c.args.targets.now c.loop-target.target-index 0 (get_or c.args.targets.now c.loop-target.target-index 0) c.args.found.now c.loop-target.found c.take_object.new.found
    c.loop-target-test.true refl c.loop-target.invariant c.in_ok-take_object.ensures

pub returns : goal.returns
returns c = front_all (λ target flows gets. TakesObject c.args.classes.now flows c.args.layout target c.args.source) c.args.targets.now c.loop-target.target-index c.args.found.now c.loop-target.found c.loop-target-test.false c.loop-target.invariant
