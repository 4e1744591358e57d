use Rattle.std.proofs.Common.{arith}
use Rattle.points_to.specs.declared.block.Block.{Block}
use Rattle.points_to.proofs.Merging.{merged_left, merged_right, merged_both}
use Rattle.points_to.proofs.blocks.merge_next.Goals as goal

abbrev nothing : Block
nothing = record { index = 0; bits = 0 }

pub returns-then-first-second-clause-merged : goal.returns-then-first-second-clause-merged
returns-then-first-second-clause-merged c =
    rw c.in_ok-push.ensures.items
    (merged_left c.args.left.now c.args.right.now c.args.out.now.items c.args.i c.args.j nothing c.requires.merged c.requires.left c.requires.right c.if-first-second.true)

pub returns-then-second-first-clause-merged : goal.returns-then-second-first-clause-merged
returns-then-second-first-clause-merged c =
    rw c.in_ok-push-2.ensures.items
    (merged_right c.args.left.now c.args.right.now c.args.out.now.items c.args.i c.args.j nothing c.requires.merged c.requires.left c.requires.right c.if-second-first.true)

pub returns-clause-merged : goal.returns-clause-merged
returns-clause-merged c =
    rw c.in_ok-push-3.ensures.items
    (merged_both c.args.left.now c.args.right.now c.args.out.now.items c.args.i c.args.j nothing c.requires.merged c.requires.left c.requires.right
    c.joined.result c.joined.ensures.index (omega (arith, c.joined.ensures.index)) c.joined.ensures.numbers)
