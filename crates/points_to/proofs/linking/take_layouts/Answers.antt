use Rattle.points_to.specs.computed.RuleParts.{TakesLayouts}
use Rattle.points_to.proofs.Links.{AskedLayout, layout_lasts}
use Rattle.points_to.proofs.Steps.{front_more, front_all}
use Rattle.points_to.proofs.linking.take_layouts.Goals as goal

pub loop-target-preserved : goal.loop-target-preserved
loop-target-preserved c =
    front_more (AskedLayout c.args.classes.now c.args.layout c.args.sources.now) (layout_lasts c.args.classes.now c.args.layout c.args.sources.now) c.args.targets.now c.loop-target.target-index c.target-item.result c.target-item.result c.args.found.now c.loop-target.found c.take_layout.new.found
    c.loop-target-test.true c.target-item.is c.loop-target.invariant c.in_ok-take_layout.ensures

pub returns : goal.returns
unfolding TakesLayouts
returns c = front_all (AskedLayout c.args.classes.now c.args.layout c.args.sources.now) c.args.targets.now c.loop-target.target-index c.args.found.now c.loop-target.found c.loop-target-test.false c.loop-target.invariant
