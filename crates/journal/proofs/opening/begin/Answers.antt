use Rattle.journal.proofs.Beginnings.{fresh_known}
use Rattle.journal.proofs.opening.begin.Goals as goal

pub returns-in_ok-finish_header-in-Unfinished-clause-begun :
    goal.returns-in_ok-finish_header-in-Unfinished-clause-begun
returns-in_ok-finish_header-in-Unfinished-clause-begun g c = λ told.
    let done = c.in_ok-finish_header-in-Unfinished.ensures in
    let image = g.D.Disk.seen c.finish_header.new.disk in
    c.new.ensures.begun image (done.size told) (fresh_known c.args.digests.now image (done.size told) (done.fresh told))
