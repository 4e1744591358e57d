use Rattle.std.proofs.Common.{◌<◌, [], length, arith}
use Rattle.sv_outside.specs.Disk.{Cut}
use Rattle.journal.specs.Lists.{HoldsList}
use Rattle.journal.proofs.Moments.{weaker, then_on}
use Rattle.journal.proofs.Beginnings.{unfinished_holds, cut_torn}
use Rattle.journal.proofs.opening.finish_header.Goals as goal

pub returns-in_err-cut_synced-clause-any_moment : goal.returns-in_err-cut_synced-clause-any_moment
returns-in_err-cut_synced-clause-any_moment g c = λ told.
    let now = g.D.Disk.seen c.args.disk.now in
    let long : 1 < length now = omega (arith, c.requires.size told) in
    weaker g.D.Disk.moment g.D.Disk.left_since c.args.disk.now c.cut_synced.new.disk (Cut 1 now) (HoldsList c.args.digests.now [])
    (c.cut_synced.ensures.any_moment told now c.requires.durable) (λ x t. unfinished_holds c.args.digests.now x (cut_torn now x (c.requires.unfinished told) long t))

pub returns-clause-any_moment : goal.returns-clause-any_moment
returns-clause-any_moment g c = λ told.
    let old = c.args.disk.now in
    let mid = c.cut_synced.new.disk in
    let now = g.D.Disk.seen old in
    let long : 1 < length now = omega (arith, c.requires.size told) in
    then_on g.D.Disk.moment g.D.Disk.left_since old mid c.start_afresh-2.new.disk (Cut 1 now) (HoldsList c.args.digests.now []) (HoldsList c.args.digests.now [])
    (c.cut_synced.ensures.any_moment told now c.requires.durable) (c.start_afresh-2.ensures.any_moment told (g.D.Disk.seen mid) c.in_ok-cut_synced.ensures.durable)
    (λ x t. unfinished_holds c.args.digests.now x (cut_torn now x (c.requires.unfinished told) long t)) (λ x h. h)
