use Rattle.std.proofs.Common.{◌≡◌, ◌+◌, ℕ, List, length, take, drop, arith, ap, ◌∙◌}
use Rattle.journal.proofs.Records.{no_room, too_short, record_stands}
use Rattle.journal.proofs.record.read_record.Goals as goal

pub returns-then-scan-at-le13-clause-record : goal.returns-then-scan-at-le13-clause-record
returns-then-scan-at-le13-clause-record g c = λ told.
    let image = g.D.Disk.seen c.args.disk.now in
    no_room image c.args.scan.now.at (omega (arith, c.requires.size told, c.if-scan-at-le13.true))

pub returns-then-at-numbers-clause-record : goal.returns-then-at-numbers-clause-record
returns-then-at-numbers-clause-record g c = λ told.
    let image = g.D.Disk.seen c.args.disk.now in
    let n = c.in_ok-numbers.numbers in
    too_short image c.args.scan.now.at n.round n.task n.length (omega arith) (c.in_ok-numbers.ensures.numbers told) (omega (arith, c.requires.size told, c.if-at-numbers.true))

pub returns-clause-record : goal.returns-clause-record
returns-clause-record g c = λ told.
    let image = g.D.Disk.seen c.args.disk.now in
    let n = c.in_ok-numbers.numbers in
    let body = c.in_ok-body.body in
    let size : n.length ≡ length body.items = omega (arith, c.in_ok-body.ensures.size) in
    record {
      whole = record_stands image c.args.scan.now.at n.round n.task n.length body.items (c.requires.open told) (c.in_ok-numbers.ensures.numbers told)
          (c.in_ok-body.ensures.body told ∙ ap (λ (l : List ℕ). take n.length (drop (c.args.scan.now.at + 13) l)) c.read_numbers.ensures.seen) size;
      next = omega (arith, size, c.requires.size told, c.if-at-numbers.false);
    }
