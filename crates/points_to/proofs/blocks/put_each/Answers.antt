use Rattle.std.proofs.Common.{◌||◌, get_or, take, ◌∙◌, sym, ap, arith}
use Rattle.points_to.specs.declared.block.Block.{Block}
use Rattle.points_to.specs.computed.Blocks.{block_has, blocks_have}
use Rattle.points_to.proofs.Logic.{or_assoc}
use Rattle.points_to.proofs.Merging.{take_have, index_below}
use Rattle.points_to.proofs.blocks.put_each.Goals as goal

abbrev nothing : Block
nothing = record { index = 0; bits = 0 }

pub put_reserved-requires-clause-index : goal.put_reserved-requires-clause-index
put_reserved-requires-clause-index c = index_below c.args.others.now c.requires.others c.loop-other.other-index _ c.loop-other-test.true

pub loop-other-preserved : goal.loop-other-preserved
loop-other-preserved c =
    let l = c.loop-other in
    let others = c.args.others.now in
    let had = c.args.blocks.now.items in
    record {
      order = c.put_reserved.ensures.blocks;
      numbers = λ n.
          c.put_reserved.ensures.numbers n
          ∙ ap (λ s. s || block_has (get_or others l.other-index nothing) n) (l.invariant.numbers n)
          ∙ or_assoc (blocks_have had n) (blocks_have (take l.other-index others) n) (block_has (get_or others l.other-index nothing) n)
          ∙ ap (λ s. blocks_have had n || s) (sym (take_have others l.other-index n nothing c.loop-other-test.true));
      room = omega (arith, l.invariant.room, c.put_reserved.ensures.len, c.put_reserved.ensures.capacity, c.loop-other-test.true);
    }
