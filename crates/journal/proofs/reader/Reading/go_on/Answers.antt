use Rattle.std.proofs.Common.{◌<◌, ◌++◌, List, length, subst, arith, Ok, Option}
use Rattle.journal.specs.declared.kept.Kept.{Kept}
use Rattle.journal.specs.Format.{Entry}
use Rattle.journal.specs.Headers.{header_for}
use Rattle.journal.specs.Nexts.{AdvancesTo}
use Rattle.journal.proofs.Continuing.{gate_of}
use Rattle.journal.proofs.Ends.{stands_at, cut_rests}
use Rattle.journal.proofs.reader.Reading.go_on.Goals as goal

pub returns-in-Ok-None-clause-reads : goal.returns-in-Ok-None-clause-reads
returns-in-Ok-None-clause-reads g c = λ told digests entries read.
    let image = g.D.Disk.seen c.args.self.now.disk in
    let now = g.D.Disk.seen c.advance.new.disk in
    let scan = c.advance.new.scan in
    let ends = subst (λ (o : Option Kept). AdvancesTo digests entries c.args.self.now.scan.version image scan now (Ok o)) c.in-Ok-None.field-0-is (c.in-Ok-None.ensures.advances told digests entries read) in
    let all : List Entry = entries ++ ends.0.passed in
    let end = ends.0.read in
    let inside : scan.at < length image = omega (arith, c.advance.ensures.inside.inside, end.size) in (
      ends.0.passed,
      ends.0.no_more,
      stands_at (header_for digests scan.version) all scan.at image end.front ends.0.closed,
      record {
        settled = record {
          accepted = end.accepted;
          fit = end.fit;
          gate_is = gate_of digests all scan image end inside;
          rests = λ told'. (now, cut_rests digests all scan image end now ends.1, c.in-Ok-None.ensures.durable);
        };
        versioned = end.versioned;
        current = end.current;
      },
    )
