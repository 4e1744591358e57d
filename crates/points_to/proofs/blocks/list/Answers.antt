use Rattle.points_to.proofs.Merging.{index_below}
use Rattle.points_to.proofs.blocks.list.Goals as goal

pub spell-requires : goal.spell-requires
spell-requires c = index_below c.args.blocks.now c.requires c.loop-block.block-index _ c.loop-block-test.true
