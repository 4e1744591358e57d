use Rattle.std.proofs.Common.{◌≡◌, [], List, ℕ, subst, sym}
use Rattle.journal.specs.declared.digests.Version.{Version}
use Rattle.journal.specs.Headers.{BeginsWith, IsKnown}
use Rattle.journal.specs.Looks.{ReadsAll}
use Rattle.journal.specs.Scans.{HasRead}
use Rattle.journal.proofs.Listing.{looks_known}
use Rattle.journal.proofs.looking.look.Goals as goal

pub returns-in-Known-clause-looks : goal.returns-in-Known-clause-looks
returns-in-Known-clause-looks g c = λ told.
    let digests = c.args.digests.now in
    let image = g.D.Disk.seen c.args.disk.now in
    let scan = c.new-in-Known.result in
    let known : IsKnown digests image c.in-Known.version = subst (BeginsWith digests image) c.in-Known.is (c.in_ok-size.ensures.front told) in
    let begun : HasRead digests [] scan image = c.new-in-Known.ensures.begun image (sym (c.in_ok-size.ensures.length told)) known in
    let same : g.D.Disk.seen c.read_front.new.disk ≡ image = c.read_front.ensures.seen in
    let reads = c.read_records.ensures.reads told digests (subst (HasRead digests [] scan) (sym same) begun) in
    let in_version = subst (λ (v : Version). ReadsAll digests v (g.D.Disk.seen c.read_front.new.disk) c.read_records.result) c.new-in-Known.ensures.version reads in
    looks_known digests image c.in-Known.version c.read_records.result known c.read_records.ensures.answer
    (subst (λ (l : List ℕ). ReadsAll digests c.in-Known.version l c.read_records.result) same in_version)
