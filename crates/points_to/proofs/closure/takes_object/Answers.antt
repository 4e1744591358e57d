use Rattle.std.proofs.Common.{◌≡◌, ◌∙◌, sym, subst, true, false}
use Rattle.std.proofs.lemmas.Bool.{true≢false}
use Rattle.core_ir.specs.Plain.{lists_of}
use Rattle.core_ir.specs.declared.classes.LayoutPart.{LayoutPart}
use Rattle.points_to.specs.Families.{Flows, family_of}
use Rattle.points_to.specs.computed.RuleParts.{TakesLayouts}
use Rattle.points_to.proofs.Each.{each_more, each_all, each_not}
use Rattle.points_to.proofs.Meeting.{object_is}
use Rattle.points_to.proofs.closure.takes_object.Goals as goal

pub loop-part-preserved : goal.loop-part-preserved
loop-part-preserved c =
    each_more (λ (part : LayoutPart). part.layout ≡ c.args.layout → TakesLayouts c.args.classes.now (Flows (family_of (lists_of c.args.sets.now))) c.args.layout c.layouts-targets.result.now part.leaves.items) c.layouts-part-items.result.now c.loop-part.part-index c.part-item.result c.loop-part-test.true c.loop-part.invariant
    (subst (λ (part : LayoutPart). part.layout ≡ c.args.layout → TakesLayouts c.args.classes.now (Flows (family_of (lists_of c.args.sets.now))) c.args.layout c.layouts-targets.result.now part.leaves.items) c.part-item.is (c.takes_source.ensures.0 c.if-not-takes_source.false))

pub returns-then-not-takes_source : goal.returns-then-not-takes_source
returns-then-not-takes_source c =
    object_is c.args.classes.now (Flows (family_of (lists_of c.args.sets.now))) c.args.layout c.args.target c.args.source false c.layouts-targets.result.now c.layouts-part-items.result.now c.layouts-targets.ensures c.layouts-part-items.ensures
    (each_not (λ (part : LayoutPart). part.layout ≡ c.args.layout → TakesLayouts c.args.classes.now (Flows (family_of (lists_of c.args.sets.now))) c.args.layout c.layouts-targets.result.now part.leaves.items) c.layouts-part-items.result.now c.loop-part.part-index c.part-item.result c.loop-part-test.true
    (λ m. true≢false (sym (c.takes_source.ensures.1 (subst (λ (part : LayoutPart). part.layout ≡ c.args.layout → TakesLayouts c.args.classes.now (Flows (family_of (lists_of c.args.sets.now))) c.args.layout c.layouts-targets.result.now part.leaves.items) (sym c.part-item.is) m)) ∙ c.if-not-takes_source.true)))

pub returns : goal.returns
returns c =
    object_is c.args.classes.now (Flows (family_of (lists_of c.args.sets.now))) c.args.layout c.args.target c.args.source true c.layouts-targets.result.now c.layouts-part-items.result.now c.layouts-targets.ensures c.layouts-part-items.ensures
    (each_all (λ (part : LayoutPart). part.layout ≡ c.args.layout → TakesLayouts c.args.classes.now (Flows (family_of (lists_of c.args.sets.now))) c.args.layout c.layouts-targets.result.now part.leaves.items) c.layouts-part-items.result.now c.loop-part.part-index c.loop-part-test.false c.loop-part.invariant)
