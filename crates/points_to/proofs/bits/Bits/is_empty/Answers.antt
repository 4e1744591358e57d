use Rattle.std.proofs.Common.{◌∙◌, sym, ap}
use Rattle.points_to.specs.computed.Blocks.{blocks_have}
use Rattle.points_to.proofs.Views.{has_at, empty_at}
use Rattle.points_to.proofs.bits.Bits.is_empty.Goals as goal

pub returns : goal.returns
returns c =
    let blocks = c.self.inside.blocks.items in
    let xs = c.args.self.now in
    empty_at xs c.none.result
    (λ e n. has_at blocks xs c.self.view_is n ∙ ap (λ bs. blocks_have bs n) (sym c.deref.ensures.value) ∙ c.none.ensures.none e n)
    (λ e. let r = c.none.ensures.some e in (r.0, has_at blocks xs c.self.view_is r.0 ∙ ap (λ bs. blocks_have bs r.0) (sym c.deref.ensures.value) ∙ r.1))
