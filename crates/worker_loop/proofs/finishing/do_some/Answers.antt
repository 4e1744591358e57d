use Rattle.std.proofs.Common.{All, sym, subst}
use Rattle.journal.specs.Journals.{has_failed}
use Rattle.tables.specs.Sound.{HasCause, journal_of}
use Rattle.worker_loop.proofs.finishing.do_some.Goals as goal

pub returns-in-Some-clause-failed : goal.returns-in-Some-clause-failed
returns-in-Some-clause-failed g c =
    let failed = has_failed (journal_of c.publish_all.new.self) in
    c.in-Some.ensures.failed failed (subst (All (HasCause failed)) (sym c.deref.ensures.value) c.in_ok-answers.ensures.causes)

pub returns-in-Some-clause-full : goal.returns-in-Some-clause-full
returns-in-Some-clause-full g c =
    let failed = has_failed (journal_of c.publish_all.new.self) in
    c.in-Some.ensures.full failed (subst (All (HasCause failed)) (sym c.deref.ensures.value) c.in_ok-answers.ensures.causes)
