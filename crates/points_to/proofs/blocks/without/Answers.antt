use Rattle.std.proofs.Common.{◌∙◌, sym}
use Rattle.points_to.specs.declared.block.Block.{Block}
use Rattle.points_to.specs.computed.Blocks.{blocks_have}
use Rattle.points_to.proofs.Words.{empty_has}
use Rattle.points_to.proofs.Merging.{lacking_more, lacking_same, next_like, next_none}
use Rattle.points_to.proofs.blocks.without.Goals as goal
use Rattle.points_to.proofs.blocks.without.Goals.{then-left-ne0+in_ok-push, else-left-ne0}

abbrev nothing : Block
nothing = record { index = 0; bits = 0 }

pub loop-block-preserved : goal.loop-block-preserved
loop-block-preserved c =
    let l = c.loop-block in
    let bs = c.args.blocks.now in
    let k = l.block-index in
    elim c.if-left-ne0.branch [
      | then-left-ne0+in_ok-push w ↦ rw (w.out-is, w.in_ok-push.ensures.items) (record {
        order = next_like l.out.items bs k nothing c.lacking-left.result c.loop-block-test.true c.lacking-left.ensures.index l.invariant.order;
        numbers = λ n. lacking_more l.out.items bs k n nothing c.lacking-left.result (blocks_have c.args.others.now n) c.loop-block-test.true (c.lacking-left.ensures.numbers n) (l.invariant.numbers n);
      })
      | else-left-ne0 w ↦ rw w.out-is (record {
        order = next_none l.out.items bs k nothing c.loop-block-test.true l.invariant.order;
        numbers = λ n. lacking_same l.out.items bs k n nothing (blocks_have c.args.others.now n) c.loop-block-test.true
            (sym (c.lacking-left.ensures.numbers n) ∙ empty_has c.lacking-left.result n w.if-left-ne0.false) (l.invariant.numbers n);
      })
    ]
