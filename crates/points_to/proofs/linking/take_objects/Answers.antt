use Rattle.std.proofs.Common.{get_or, refl}
use Rattle.points_to.specs.computed.RuleParts.{TakesObject, TakesObjects}
use Rattle.points_to.proofs.Links.{object_lasts}
use Rattle.points_to.proofs.Steps.{front_more, front_all}
use Rattle.points_to.proofs.linking.take_objects.Goals as goal

pub loop-source-preserved : goal.loop-source-preserved
loop-source-preserved c =
    front_more (λ source flows gets. TakesObject c.args.classes.now flows c.args.layout c.args.target source) (λ source. object_lasts c.args.classes.now c.args.layout c.args.target source) c.args.sources.now c.loop-source.source-index 0 (get_or c.args.sources.now c.loop-source.source-index 0) c.args.found.now c.loop-source.found c.take_object.new.found
    c.loop-source-test.true refl c.loop-source.invariant c.in_ok-take_object.ensures

pub returns : goal.returns
unfolding TakesObjects
returns c = front_all (λ source flows gets. TakesObject c.args.classes.now flows c.args.layout c.args.target source) c.args.sources.now c.loop-source.source-index c.args.found.now c.loop-source.found c.loop-source-test.false c.loop-source.invariant
