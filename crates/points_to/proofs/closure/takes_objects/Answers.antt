use Rattle.std.proofs.Common.{◌∙◌, sym}
use Rattle.std.proofs.lemmas.Bool.{true≢false}
use Rattle.core_ir.specs.Plain.{lists_of}
use Rattle.points_to.specs.Families.{Flows, family_of}
use Rattle.points_to.specs.computed.RuleParts.{TakesObject, TakesObjects}
use Rattle.points_to.proofs.Each.{each_more, each_all, each_not}
use Rattle.points_to.proofs.closure.takes_objects.Goals as goal

pub loop-source-preserved : goal.loop-source-preserved
loop-source-preserved c =
    each_more (λ y. TakesObject c.args.classes.now (Flows (family_of (lists_of c.args.sets.now))) c.args.layout c.args.target y) c.args.sources.now c.loop-source.source-index 0 c.loop-source-test.true c.loop-source.invariant
    (c.takes_object.ensures.0 c.if-not-takes_object.false)

pub returns-then-not-takes_object : goal.returns-then-not-takes_object
unfolding TakesObjects
returns-then-not-takes_object c =
    each_not (λ y. TakesObject c.args.classes.now (Flows (family_of (lists_of c.args.sets.now))) c.args.layout c.args.target y) c.args.sources.now c.loop-source.source-index 0 c.loop-source-test.true
    (λ m. true≢false (sym (c.takes_object.ensures.1 m) ∙ c.if-not-takes_object.true))

pub returns : goal.returns
unfolding TakesObjects
returns c = each_all (λ y. TakesObject c.args.classes.now (Flows (family_of (lists_of c.args.sets.now))) c.args.layout c.args.target y) c.args.sources.now c.loop-source.source-index c.loop-source-test.false c.loop-source.invariant
