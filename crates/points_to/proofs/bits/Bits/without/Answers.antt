use Rattle.std.proofs.Common.{◌&&◌, not, ◌∙◌, sym, ap}
use Rattle.points_to.specs.Sets.{has}
use Rattle.points_to.specs.computed.Blocks.{blocks_have}
use Rattle.points_to.proofs.Views.{has_at, set_of}
use Rattle.points_to.proofs.Members.{members_have}
use Rattle.points_to.proofs.bits.Bits.without.Goals as goal

pub returns-clause-members : goal.returns-clause-members
returns-clause-members c = λ n.
    members_have c.in_ok-blocks.blocks.items n ∙ c.in_ok-blocks.ensures.numbers n
    ∙ ap (λ bs. blocks_have bs n && not (blocks_have c.deref-2.result.now n)) c.deref.ensures.value
    ∙ ap (λ bs. blocks_have c.self.inside.blocks.items n && not (blocks_have bs n)) c.deref-2.ensures.value
    ∙ ap (λ s. s && not (blocks_have c.other.inside.blocks.items n)) (sym (has_at c.self.inside.blocks.items c.args.self.now c.self.view_is n))
    ∙ ap (λ s. has c.args.self.now n && not s) (sym (has_at c.other.inside.blocks.items c.args.other.now c.other.view_is n))

pub returns-clause-set : goal.returns-clause-set
returns-clause-set c = set_of _ c.in_ok-blocks.ensures.blocks
