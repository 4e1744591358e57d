use Rattle.std.proofs.Common.{get_or, refl}
use Rattle.core_ir.specs.declared.classes.PartClass.{PartClass}
use Rattle.points_to.specs.Rules.{parts_in}
use Rattle.points_to.specs.computed.RuleParts.{TakesParts}
use Rattle.points_to.proofs.Links.{AskedPart, part_lasts, each_of}
use Rattle.points_to.proofs.Steps.{front_more, front_all}
use Rattle.points_to.proofs.linking.take_parts.Goals as goal

abbrev nothing : PartClass
nothing = record { part = 0; «class» = 0 }

pub loop-part-preserved : goal.loop-part-preserved
loop-part-preserved c =
    front_more (AskedPart c.args.number c.args.to) (part_lasts c.args.number c.args.to) c.parts-part-items.result.now c.loop-part.part-index nothing (get_or c.parts-part-items.result.now c.loop-part.part-index nothing) c.args.found.now c.loop-part.found c.take_part.new.found
    c.loop-part-test.true refl c.loop-part.invariant c.in_ok-take_part.ensures

pub returns : goal.returns
unfolding TakesParts
returns c =
    each_of (AskedPart c.args.number c.args.to) c.parts-part-items.result.now (parts_in c.args.classes.now c.args.member) c.args.found.now c.loop-part.found c.parts-part-items.ensures
    (front_all (AskedPart c.args.number c.args.to) c.parts-part-items.result.now c.loop-part.part-index c.args.found.now c.loop-part.found c.loop-part-test.false c.loop-part.invariant)
