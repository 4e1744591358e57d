use Rattle.std.proofs.Common.{◌+◌, ◌-◌, ◌/◌, arith}
use Rattle.points_to.proofs.Members.{lesser_half, greater_half}
use Rattle.points_to.proofs.blocks.place.Goals as goal

pub loop-low-preserved-then-blocks-middle : goal.loop-low-preserved-then-blocks-middle
loop-low-preserved-then-blocks-middle c =
    let l = c.loop-low in
    record {
      order = omega arith;
      within = omega arith;
      before = lesser_half c.args.blocks.now c.requires.ascending (l.low + (l.high - l.low) / 2) c.args.index _ (omega arith) c.if-blocks-middle.true;
      after = l.invariant.after;
    }

pub loop-low-preserved : goal.loop-low-preserved
loop-low-preserved c =
    let l = c.loop-low in
    record {
      order = omega arith;
      within = omega arith;
      before = l.invariant.before;
      after = greater_half c.args.blocks.now c.requires.ascending (l.low + (l.high - l.low) / 2) c.args.index _ c.if-blocks-middle.false;
    }
