use Rattle.std.proofs.Common.{◌∙◌, sym, ap}
use Rattle.points_to.specs.computed.Blocks.{blocks_have}
use Rattle.points_to.proofs.Views.{has_at}
use Rattle.points_to.proofs.bits.Bits.contains.Goals as goal

pub returns : goal.returns
returns c =
    c.has.ensures ∙ ap (λ bs. blocks_have bs c.args.member) c.deref.ensures.value
    ∙ sym (has_at c.self.inside.blocks.items c.args.self.now c.self.view_is c.args.member)
