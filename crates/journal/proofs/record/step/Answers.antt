use Rattle.std.proofs.Common.{◌≡◌, true, ℕ, List, drop, subst, Err}
use Rattle.journal.specs.Format.{IsOpen}
use Rattle.journal.specs.Steps.{IsRecordAt, StandsAt}
use Rattle.journal.proofs.Records.{refused_steps, accepted_steps, never_closed}
use Rattle.journal.proofs.record.step.Goals as goal

pub returns-in-Err-clause-steps : goal.returns-in-Err-clause-steps
returns-in-Err-clause-steps g c = λ told digests entries read.
    let image = g.D.Disk.seen c.args.disk.now in
    let scan = c.args.scan.now in
    let yes : c.in_ok-is_open.field-0 ≡ true = cc in
    let gate : IsOpen (drop scan.at image) = c.in_ok-is_open.ensures.open told yes in
    refused_steps digests entries image scan c.in-Err.fault read gate c.in-Err.ensures.answer
    (subst (λ (l : List ℕ). IsRecordAt l scan.at (Err c.in-Err.fault)) c.is_open.ensures.seen (c.in-Err.ensures.record told))

pub returns-in-Ok-clause-steps : goal.returns-in-Ok-clause-steps
returns-in-Ok-clause-steps g c = λ told digests entries read.
    let image = g.D.Disk.seen c.args.disk.now in
    let scan = c.args.scan.now in
    let kept = c.in-Ok.kept in
    let yes : c.in_ok-is_open.field-0 ≡ true = cc in
    let gate : IsOpen (drop scan.at image) = c.in_ok-is_open.ensures.open told yes in
    let here : kept.at ≡ scan.at = c.in-Ok.ensures.answer in
    let stands : StandsAt kept image = subst (StandsAt kept) c.is_open.ensures.seen (c.in-Ok.ensures.record told) in
    accepted_steps digests entries kept image scan c.accept.new.self c.accept.result read gate here (c.accept.ensures.accepts digests entries image here read stands)

pub returns-in-Ok-clause-closed : goal.returns-in-Ok-clause-closed
returns-in-Ok-clause-closed g c = λ told. never_closed c.args.scan.now c.accept.new.self (g.D.Disk.seen c.args.disk.now) c.accept.result c.accept.ensures.answer
