use Rattle.std.proofs.Common.{get_or, arith}
use Rattle.lease_table.specs.declared.standing.Standing.TheVariants.{Free}
use Rattle.lease_table.specs.Standings.{expired}
use Rattle.lease_table.proofs.Mapped.{map_more, drop_more}
use Rattle.lease_table.proofs.tasks.free_run_out.Goals as goal

pub loop-standing-preserved : goal.loop-standing-preserved
loop-standing-preserved c =
    let l = c.loop-standing in
    rw c.expired.ensures (record {
      done = map_more (expired c.args.now) l.standings c.args.standings.now l.standing-index Free (omega arith) c.loop-standing-test.true l.invariant.done l.invariant.left;
      left = drop_more l.standings c.args.standings.now l.standing-index (expired c.args.now (get_or l.standings l.standing-index Free)) l.invariant.left;
    })
