use Rattle.std.proofs.Common.{◌++◌, ◌∷◌, [], List, subst, sym, ◌∙◌, arith, rules, Option, Ok, Err}
use Rattle.journal.specs.declared.kept.Kept.{Kept}
use Rattle.journal.specs.declared.digests.Version.{Version}
use Rattle.journal.specs.Looks.{Lists}
use Rattle.journal.specs.Nexts.{HandsOut, ComesToEnd, ReadsOn}
use Rattle.journal.specs.Bodies.{records_in}
use Rattle.journal.specs.Steps.{entry_of}
use Rattle.journal.proofs.Listing.{again_on, lists_more, lists_all, refuses_all}
use Rattle.journal.proofs.looking.read_records.Goals as goal

pub loop-kept-preserved : goal.loop-kept-preserved
loop-kept-preserved g c = record {
  inside = c.read_on.ensures.inside;
  same_size = c.read_on.ensures.same.0 ∙ c.loop-kept.invariant.same_size;
  version = c.read_on.ensures.same.1 ∙ c.loop-kept.invariant.version;
  firsts = c.in_ok-add-in-Ok-Some.ensures.firsts;
  read = λ told digests start.
      let image = g.D.Disk.seen c.args.disk.now in
      let new = c.read_on.new.scan in
      let prior = c.loop-kept.invariant.read told digests start in
      let reads = again_on digests prior.0 c.loop-kept.scan.version c.loop-kept.scan new image (g.D.Disk.seen c.loop-kept.disk) (Ok c.in-Ok-Some.field-0) c.loop-kept.invariant.seen prior.1 (c.in-Ok-Some.ensures.reads told digests prior.0) in
      let in_version = subst (λ (v : Version). ReadsOn digests prior.0 v image new (Ok c.in-Ok-Some.field-0)) c.loop-kept.invariant.version reads in
      let out : HandsOut digests prior.0 c.args.scan.version c.in-Ok-Some.kept image new = subst (λ (o : Option Kept). ReadsOn digests prior.0 c.args.scan.version image new (Ok o)) c.in-Ok-Some.field-0-is in_version in
      ((prior.0 ++ out.passed) ++ entry_of c.in-Ok-Some.kept ∷ [], out.read, lists_more digests prior.0 c.args.scan.version c.in-Ok-Some.kept image new (records_in c.loop-kept.bodies) (records_in c.add.new.self) out prior.2 c.in_ok-add-in-Ok-Some.ensures.gains);
  seen = c.read_on.ensures.seen ∙ c.loop-kept.invariant.seen;
  still = search rules;
  later = omega (arith, c.loop-kept.invariant.later, c.read_on.ensures.later);
  room = c.read_on.ensures.room ∙ c.loop-kept.invariant.room;
}

pub returns-in-Ok-None-clause-reads : goal.returns-in-Ok-None-clause-reads
returns-in-Ok-None-clause-reads g c = λ told digests start.
    let image = g.D.Disk.seen c.args.disk.now in
    let new = c.read_on.new.scan in
    let prior = c.loop-kept.invariant.read told digests start in
    let reads = again_on digests prior.0 c.loop-kept.scan.version c.loop-kept.scan new image (g.D.Disk.seen c.loop-kept.disk) (Ok c.in-Ok-None.field-0) c.loop-kept.invariant.seen prior.1 (c.in-Ok-None.ensures.reads told digests prior.0) in
    let end : ComesToEnd digests prior.0 image new = subst (λ (o : Option Kept). ReadsOn digests prior.0 c.loop-kept.scan.version image new (Ok o)) c.in-Ok-None.field-0-is reads in
    lists_all digests prior.0 c.args.scan.version image new c.into_records.result (c.read_on.ensures.same.1 ∙ c.loop-kept.invariant.version) end
    (subst (λ (l : List Kept). Lists digests c.args.scan.version prior.0 l) (sym c.into_records.ensures) prior.2)

pub returns-in-Err-clause-reads : goal.returns-in-Err-clause-reads
returns-in-Err-clause-reads g c = λ told digests start.
    let image = g.D.Disk.seen c.args.disk.now in
    let prior = c.loop-kept.invariant.read told digests start in
    let reads = again_on digests prior.0 c.loop-kept.scan.version c.loop-kept.scan c.read_on.new.scan image (g.D.Disk.seen c.loop-kept.disk) (Err c.in-Err.fault) c.loop-kept.invariant.seen prior.1 (c.in-Err.ensures.reads told digests prior.0) in
    refuses_all digests prior.0 c.args.scan.version image c.read_on.new.scan c.in-Err.fault (subst (λ (v : Version). ReadsOn digests prior.0 v image c.read_on.new.scan (Err c.in-Err.fault)) c.loop-kept.invariant.version reads)
