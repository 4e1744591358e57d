use Rattle.std.proofs.Common.{ℕ, ◌∷◌, [], List, subst}
use Rattle.sv_outside.specs.Disk.{Only, Torn}
use Rattle.journal.specs.Headers.{IsUnfinished}
use Rattle.journal.specs.Lists.{HoldsList}
use Rattle.journal.proofs.Moments.{weaker, then_on}
use Rattle.journal.proofs.Beginnings.{unfinished_holds, opening_torn}
use Rattle.journal.proofs.fresh.start_afresh.Goals as goal

pub returns-in_err-write_header-clause-any_moment : goal.returns-in_err-write_header-clause-any_moment
returns-in_err-write_header-clause-any_moment g c = λ told now only.
    weaker g.D.Disk.moment g.D.Disk.left_since c.args.disk.now c.write_header.new.disk IsUnfinished (HoldsList c.args.digests.now [])
    (c.write_header.ensures.any_moment told now only) (λ x t. unfinished_holds c.args.digests.now x t)

pub returns-clause-any_moment : goal.returns-clause-any_moment
returns-clause-any_moment g c = λ told now only.
    let old = c.args.disk.now in
    let mid = c.write_header.new.disk in
    let bytes = c.header_bytes-bytes.result in
    let only' : Only (0 ∷ bytes) (g.D.Disk.may_leave mid) = subst (λ (l : List ℕ). Only l (g.D.Disk.may_leave mid)) (c.in_ok-write_header.ensures.written told) c.in_ok-write_header.ensures.durable in
    then_on g.D.Disk.moment g.D.Disk.left_since old mid c.write_synced.new.disk IsUnfinished (Torn 0 1 (0 ∷ bytes)) (HoldsList c.args.digests.now [])
    (c.write_header.ensures.any_moment told now only) (c.write_synced.ensures.any_moment told (0 ∷ bytes) only')
    (λ x t. unfinished_holds c.args.digests.now x t) (λ x t. opening_torn c.args.digests.now bytes x c.header_bytes-bytes.ensures.len c.header_bytes-bytes.ensures.bytes t)
