use Rattle.std.proofs.Common.{◌≡◌, ◌∙◌, sym, subst}
use Rattle.std.proofs.lemmas.Bool.{true≢false}
use Rattle.core_ir.specs.Plain.{lists_of}
use Rattle.core_ir.specs.declared.classes.LayoutPart.{LayoutPart}
use Rattle.points_to.specs.Families.{Flows, family_of}
use Rattle.points_to.specs.computed.RuleParts.{TakesLike, TakesLayouts}
use Rattle.points_to.proofs.Each.{each_more, each_all, each_not}
use Rattle.points_to.proofs.closure.takes_layouts.Goals as goal

pub loop-target-preserved : goal.loop-target-preserved
loop-target-preserved c =
    each_more (λ (part : LayoutPart). part.layout ≡ c.args.layout → TakesLike c.args.classes.now (Flows (family_of (lists_of c.args.sets.now))) part.leaves.items c.args.sources.now) c.args.targets.now c.loop-target.target-index c.target-item.result c.loop-target-test.true c.loop-target.invariant
    (subst (λ (part : LayoutPart). part.layout ≡ c.args.layout → TakesLike c.args.classes.now (Flows (family_of (lists_of c.args.sets.now))) part.leaves.items c.args.sources.now) c.target-item.is (c.takes_layout.ensures.0 c.if-not-takes_layout.false))

pub returns-then-not-takes_layout : goal.returns-then-not-takes_layout
unfolding TakesLayouts
returns-then-not-takes_layout c =
    each_not (λ (part : LayoutPart). part.layout ≡ c.args.layout → TakesLike c.args.classes.now (Flows (family_of (lists_of c.args.sets.now))) part.leaves.items c.args.sources.now) c.args.targets.now c.loop-target.target-index c.target-item.result c.loop-target-test.true
    (λ m. true≢false (sym (c.takes_layout.ensures.1 (subst (λ (part : LayoutPart). part.layout ≡ c.args.layout → TakesLike c.args.classes.now (Flows (family_of (lists_of c.args.sets.now))) part.leaves.items c.args.sources.now) (sym c.target-item.is) m)) ∙ c.if-not-takes_layout.true))

pub returns : goal.returns
unfolding TakesLayouts
returns c = each_all (λ (part : LayoutPart). part.layout ≡ c.args.layout → TakesLike c.args.classes.now (Flows (family_of (lists_of c.args.sets.now))) part.leaves.items c.args.sources.now) c.args.targets.now c.loop-target.target-index c.loop-target-test.false c.loop-target.invariant
