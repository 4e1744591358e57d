use Rattle.std.proofs.Common.{◌+◌, ◌<◌, length, take, ap, ◌∙◌, arith}
use Rattle.sv_outside.specs.Disk.{Only, Cut}
use Rattle.journal.specs.Endings.{EndsThere}
use Rattle.journal.proofs.Moments.{weaker, still_on}
use Rattle.journal.proofs.Repairs.{cut_ends, cut_done}
use Rattle.journal.proofs.ending.settle.Goals as goal

pub returns-in_err-cut_synced-clause-any_moment : goal.returns-in_err-cut_synced-clause-any_moment
returns-in_err-cut_synced-clause-any_moment g c = λ told.
    let old = c.args.disk.now in
    let mid = c.reserve.new.self in
    let new = c.cut_synced.new.disk in
    let image = g.D.Disk.seen old in
    let gate = c.args.scan.now.at in
    let long : gate + 1 < length image = omega (arith, c.if-scan-gate.true, c.requires.size told) in
    let only : Only image (g.D.Disk.may_leave mid) = λ x left. c.requires.durable x ((c.reserve.ensures.still.images x).0 left) in
    still_on g.D.Disk.moment g.D.Disk.left_since old mid new (EndsThere gate image) (g.D.Disk.may_leave old) (g.D.Disk.may_leave mid) c.reserve.ensures.still
    (weaker g.D.Disk.moment g.D.Disk.left_since mid new (Cut (gate + 1) image) (EndsThere gate image) (c.cut_synced.ensures.any_moment told image only)
    (λ x t. cut_ends image gate x long (c.requires.closed told) t))

pub returns-then-scan-gate-clause-any_moment : goal.returns-then-scan-gate-clause-any_moment
returns-then-scan-gate-clause-any_moment g c = λ told.
    let old = c.args.disk.now in
    let mid = c.reserve.new.self in
    let new = c.cut_synced.new.disk in
    let image = g.D.Disk.seen old in
    let gate = c.args.scan.now.at in
    let long : gate + 1 < length image = omega (arith, c.if-scan-gate.true, c.requires.size told) in
    let only : Only image (g.D.Disk.may_leave mid) = λ x left. c.requires.durable x ((c.reserve.ensures.still.images x).0 left) in
    still_on g.D.Disk.moment g.D.Disk.left_since old mid new (EndsThere gate image) (g.D.Disk.may_leave old) (g.D.Disk.may_leave mid) c.reserve.ensures.still
    (weaker g.D.Disk.moment g.D.Disk.left_since mid new (Cut (gate + 1) image) (EndsThere gate image) (c.cut_synced.ensures.any_moment told image only)
    (λ x t. cut_ends image gate x long (c.requires.closed told) t))

pub returns-then-scan-gate-clause-cut : goal.returns-then-scan-gate-clause-cut
returns-then-scan-gate-clause-cut g c = λ told.
    let image = g.D.Disk.seen c.args.disk.now in
    let gate = c.args.scan.now.at in
    let long : gate + 1 < length image = omega (arith, c.if-scan-gate.true, c.requires.size told) in
    cut_done image gate (g.D.Disk.seen c.cut_synced.new.disk) long (c.requires.closed told) (c.in_ok-cut_synced.ensures.cut told ∙ ap (take (gate + 1)) c.reserve.ensures.seen)
