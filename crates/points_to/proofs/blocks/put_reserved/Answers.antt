use Rattle.std.proofs.Common.{◌||◌, ◌∙◌, sym, ap, arith}
use Rattle.std.proofs.lemmas.List.{get_or_default}
use Rattle.points_to.specs.declared.block.Block.{Block}
use Rattle.points_to.specs.computed.Blocks.{block_has}
use Rattle.points_to.proofs.Merging.{put_blocks, put_have, set_blocks, set_have}
use Rattle.points_to.proofs.blocks.put_reserved.Goals as goal
use Rattle.points_to.proofs.blocks.put_reserved.Goals.{else-at-len-via-then-at-len+else-index-block, else-at-len-via-else-at-len}

abbrev nothing : Block
nothing = record { index = 0; bits = 0 }

pub returns-then-index-block-clause-blocks : goal.returns-then-index-block-clause-blocks
returns-then-index-block-clause-blocks c =
    set_blocks c.args.blocks.now.items c.joined.result c.place-at.result _ c.requires.blocks
    (sym (c.joined.ensures.index ∙ ap (λ (b : Block). b.index) c.index-then-index-block.ensures)) (omega arith)

pub returns-then-index-block-clause-numbers : goal.returns-then-index-block-clause-numbers
returns-then-index-block-clause-numbers c = λ n.
    set_have c.args.blocks.now.items c.joined.result c.place-at.result c.index-then-index-block.result.now n (block_has c.args.block n) (omega arith)
    (c.joined.ensures.numbers n ∙ ap (λ b. block_has b n || block_has c.args.block n) c.index-then-index-block.ensures)

pub returns-clause-blocks : goal.returns-clause-blocks
returns-clause-blocks c =
    rw c.in-Ok.ensures.items
    (put_blocks c.args.blocks.now.items c.args.block c.place-at.result nothing c.requires.blocks c.requires.index
    (rw c.deref.ensures.value at c.place-at.ensures.before) (rw c.deref.ensures.value at c.place-at.ensures.after)
    (elim c.else-at-len.branch [
      | else-at-len-via-then-at-len+else-index-block w ↦ λ e l s. w.if-index-block.false (ap (λ (b : Block). b.index) (w.index.ensures ∙ get_or_default c.args.blocks.now.items c.place-at.result w.index.result.now e l) ∙ s)
      | else-at-len-via-else-at-len w ↦ λ e l s. omega (arith, l)
    ]))

pub returns-clause-numbers : goal.returns-clause-numbers
returns-clause-numbers c = λ n. rw c.in-Ok.ensures.items (put_have c.args.blocks.now.items c.args.block c.place-at.result n)
