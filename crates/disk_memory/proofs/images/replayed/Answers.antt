use Rattle.std.proofs.Common.{arith}
use Rattle.disk_memory.specs.Calls.{ops_of}
use Rattle.disk_memory.proofs.Replaying.{next}
use Rattle.disk_memory.proofs.images.replayed.Goals as goal

pub loop-at-preserved : goal.loop-at-preserved
loop-at-preserved c =
    next c.args.first.now (ops_of c.args.calls.now c.args.store.now) c.args.calls.now c.args.store.now c.loop-at.at c.loop-at.replay.read.items c.loop-at.replay.used _ (omega arith) c.loop-at.invariant
    c.step.new.replay.read.items c.step.new.replay.used c.in_ok-step.ensures.read c.in_ok-step.ensures.used
