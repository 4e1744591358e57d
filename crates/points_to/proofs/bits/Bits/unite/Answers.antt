use Rattle.std.proofs.Common.{◌||◌, ◌∙◌, sym, ap, refl}
use Rattle.points_to.specs.Sets.{has}
use Rattle.points_to.specs.computed.Blocks.{blocks_have}
use Rattle.points_to.proofs.Views.{has_at, set_at, set_of, kept, added_at, grew_at}
use Rattle.points_to.proofs.bits.Bits.unite.Goals as goal

pub returns-then-covers-clause-members : goal.returns-then-covers-clause-members
returns-then-covers-clause-members c = λ n.
    kept (has c.args.self.now n) (has c.args.other.now n) (λ h.
    has_at c.self.inside.blocks.items c.args.self.now c.self.view_is n ∙ ap (λ bs. blocks_have bs n) (sym c.deref.ensures.value)
    ∙ c.covers.ensures.all c.if-covers.true n
    (ap (λ bs. blocks_have bs n) c.deref-2.ensures.value ∙ sym (has_at c.other.inside.blocks.items c.args.other.now c.other.view_is n) ∙ h))

pub returns-then-covers-clause-set : goal.returns-then-covers-clause-set
returns-then-covers-clause-set c = set_at c.self.inside.blocks.items c.args.self.now c.self.view_is c.self.invariant

pub returns-in_err-put_all-clause-set : goal.returns-in_err-put_all-clause-set
returns-in_err-put_all-clause-set c = set_of _ c.put_all.ensures.blocks

pub returns-clause-members : goal.returns-clause-members
returns-clause-members c = λ n.
    let old = c.self.inside.blocks.items in
    added_at old c.put_all.new.blocks.items c.args.self.now (has c.args.other.now) c.self.view_is (λ m.
    c.in_ok-put_all.ensures.numbers m
    ∙ ap (λ bs. blocks_have old m || blocks_have bs m) c.deref-3.ensures.value
    ∙ ap (λ s. blocks_have old m || s) (sym (has_at c.other.inside.blocks.items c.args.other.now c.other.view_is m))) n

pub returns-clause-grew : goal.returns-clause-grew
returns-clause-grew c =
    let old = c.self.inside.blocks.items in
    let r = c.covers.ensures.some c.if-covers.false in (
      λ _. grew_at old c.put_all.new.blocks.items c.args.self.now (has c.args.other.now) r.0 c.self.view_is c.self.invariant c.put_all.ensures.blocks
          (λ m. c.in_ok-put_all.ensures.numbers m
          ∙ ap (λ bs. blocks_have old m || blocks_have bs m) c.deref-3.ensures.value
          ∙ ap (λ s. blocks_have old m || s) (sym (has_at c.other.inside.blocks.items c.args.other.now c.other.view_is m)))
          (ap (λ bs. blocks_have bs r.0) (sym c.deref.ensures.value) ∙ r.2)
          (has_at c.other.inside.blocks.items c.args.other.now c.other.view_is r.0 ∙ ap (λ bs. blocks_have bs r.0) (sym c.deref-2.ensures.value) ∙ r.1),
      λ _. refl,
    )

pub returns-clause-set : goal.returns-clause-set
returns-clause-set c = set_of _ c.put_all.ensures.blocks
