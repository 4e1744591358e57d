use Rattle.std.proofs.Common.{◌<◌, [], ◌∷◌, length, drop, arith}
use Rattle.disk_memory.specs.Calls.{ops_of}
use Rattle.disk_memory.specs.Listed.{listed_by}
use Rattle.disk_memory.specs.Replay.{contents}
use Rattle.disk_memory.proofs.Replaying.{next, next_listed}
use Rattle.disk_memory.proofs.images.list_from.Goals as goal

pub loop-at-preserved : goal.loop-at-preserved
loop-at-preserved c =
    let read = c.args.replay.read.items in
    let ops = ops_of c.args.calls.now (drop c.args.replay.used c.args.store.now) in
    let inside : c.loop-at.at < length c.args.calls.now = omega arith in
    let all = c.in_ok-list_call.ensures in
    record {
      replayed = next read ops c.args.calls.now c.args.store.now c.loop-at.at c.loop-at.replay.read.items c.loop-at.replay.used _ inside c.loop-at.invariant.replayed
          c.list_call.new.replay.read.items c.list_call.new.replay.used all.read all.used;
      listed = rw (all.read, all.listed)
          (next_listed read ops c.args.calls.now c.args.store.now c.loop-at.at c.loop-at.replay.read.items c.loop-at.replay.used _ inside c.loop-at.invariant.replayed
          (contents c.loop-at.images.items) (listed_by read (read ∷ []) ops) c.loop-at.invariant.listed);
    }
