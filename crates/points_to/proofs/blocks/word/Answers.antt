use Rattle.std.proofs.Common.{◌∙◌, sym, ap, arith}
use Rattle.std.proofs.lemmas.List.{get_or_default}
use Rattle.points_to.specs.declared.block.Block.{Block}
use Rattle.points_to.proofs.Words.{zero_has}
use Rattle.points_to.proofs.Members.{found_have, absent_have, no_block}
use Rattle.points_to.proofs.blocks.word.Goals as goal
use Rattle.points_to.proofs.blocks.word.Goals.{else-at-blocks-via-then-at-blocks+else-blocks-at, else-at-blocks-via-else-at-blocks}

pub returns-then-blocks-at : goal.returns-then-blocks-at
returns-then-blocks-at c = λ n e. found_have c.args.blocks.now c.place-at.result n _ c.requires.ascending c.if-at-blocks.true (e ∙ sym c.if-blocks-at.true)

pub returns : goal.returns
returns c = λ n e.
    absent_have c.args.blocks.now n (λ k d l s. no_block c.args.blocks.now c.requires.ascending c.place-at.result c.args.index c.place-at.ensures.before c.place-at.ensures.after
    (elim c.else-at-blocks.branch [
      | else-at-blocks-via-then-at-blocks+else-blocks-at w ↦ λ d l s. w.if-blocks-at.false (ap (λ (b : Block). b.index) (get_or_default c.args.blocks.now c.place-at.result _ d l) ∙ s)
      | else-at-blocks-via-else-at-blocks w ↦ λ d l s. omega (arith, l)
    ])
    k d l (s ∙ e))
    ∙ sym (zero_has _)
