use Rattle.std.proofs.Common.{◌==◌, ◌||◌, ◌∙◌, sym, ap, refl, eq-eqb}
use Rattle.points_to.specs.computed.Blocks.{blocks_have}
use Rattle.points_to.proofs.Views.{has_at, set_at, set_of, added_at, grew_at}
use Rattle.points_to.proofs.bits.Bits.add.Goals as goal

pub returns-then-contains-clause-set : goal.returns-then-contains-clause-set
returns-then-contains-clause-set c = set_at c.self.inside.blocks.items c.args.self.now c.self.view_is c.self.invariant

pub returns-in_err-put-clause-set : goal.returns-in_err-put-clause-set
returns-in_err-put-clause-set c = set_of _ c.put.ensures.blocks

pub returns-clause-members : goal.returns-clause-members
returns-clause-members c = λ n.
    let old = c.self.inside.blocks.items in
    added_at old c.put.new.blocks.items c.args.self.now (λ m. m == c.args.member) c.self.view_is
    (λ m. c.in_ok-put.ensures.numbers m ∙ ap (λ s. blocks_have old m || s) (c.block_of.ensures.numbers m)) n

pub returns-clause-grew : goal.returns-clause-grew
returns-clause-grew c =
    let old = c.self.inside.blocks.items in (
      λ _. grew_at old c.put.new.blocks.items c.args.self.now (λ m. m == c.args.member) c.args.member c.self.view_is c.self.invariant c.put.ensures.blocks
          (λ m. c.in_ok-put.ensures.numbers m ∙ ap (λ s. blocks_have old m || s) (c.block_of.ensures.numbers m))
          (sym (has_at old c.args.self.now c.self.view_is c.args.member) ∙ sym c.contains.ensures ∙ c.if-contains.false)
          (eq-eqb c.args.member c.args.member refl),
      λ _. refl,
    )

pub returns-clause-set : goal.returns-clause-set
returns-clause-set c = set_of _ c.put.ensures.blocks
