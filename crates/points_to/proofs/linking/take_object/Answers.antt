use Rattle.std.proofs.Common.{List, subst}
use Rattle.core_ir.specs.declared.classes.LayoutPart.{LayoutPart}
use Rattle.points_to.specs.Families.{Relation}
use Rattle.points_to.specs.computed.Progress.{IsMet}
use Rattle.points_to.specs.Rules.{layouts_in}
use Rattle.points_to.specs.computed.RuleParts.{Each, TakesObject}
use Rattle.points_to.proofs.Links.{each_of, AskedSource, source_lasts}
use Rattle.points_to.proofs.Steps.{front_more, front_all}
use Rattle.points_to.proofs.linking.take_object.Goals as goal

pub loop-part-preserved : goal.loop-part-preserved
loop-part-preserved c =
    front_more (AskedSource c.args.classes.now c.args.layout c.layouts-targets.result.now) (source_lasts c.args.classes.now c.args.layout c.layouts-targets.result.now) c.layouts-part-items.result.now c.loop-part.part-index c.part-item.result c.part-item.result c.args.found.now c.loop-part.found c.take_source.new.found
    c.loop-part-test.true c.part-item.is c.loop-part.invariant c.in_ok-take_source.ensures

pub returns : goal.returns
unfolding TakesObject
returns c =
    let t = c.args.classes.now in
    let asked : List LayoutPart → LayoutPart → Relation → Relation → Type 0 = AskedSource t c.args.layout in
    each_of (asked (layouts_in t c.args.target)) c.layouts-part-items.result.now (layouts_in t c.args.source) c.args.found.now c.loop-part.found c.layouts-part-items.ensures
    (subst (λ targets. IsMet (λ flows gets. Each c.layouts-part-items.result.now (λ x. asked targets x flows gets)) c.args.found.now c.loop-part.found) c.layouts-targets.ensures
    (front_all (asked c.layouts-targets.result.now) c.layouts-part-items.result.now c.loop-part.part-index c.args.found.now c.loop-part.found c.loop-part-test.false c.loop-part.invariant))
