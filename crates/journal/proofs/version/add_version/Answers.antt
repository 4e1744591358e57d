use Rattle.std.proofs.Common.{List, ◌∷◌, []}
use Rattle.sv_outside.specs.Disk.{Only}
use Rattle.journal.specs.Format.{Entry, IsBeforeOrAfter}
use Rattle.journal.specs.Lists.{version_entry}
use Rattle.journal.proofs.Moments.{still_on}
use Rattle.journal.proofs.version.add_version.Goals as goal

pub returns-in_err-append_at-clause-any_moment : goal.returns-in_err-append_at-clause-any_moment
returns-in_err-append_at-clause-any_moment g c = λ told header entries now size rests only.
    let old = c.args.disk.now in
    let mid = c.reserve.new.self in
    let new = c.append_at.new.disk in
    let batch : List Entry = version_entry c.args.current.now ∷ [] in
    let only' : Only now (g.D.Disk.may_leave mid) = λ x left. only x ((c.reserve.ensures.still.images x).0 left) in
    still_on g.D.Disk.moment g.D.Disk.left_since old mid new (IsBeforeOrAfter header entries batch) (g.D.Disk.may_leave old) (g.D.Disk.may_leave mid) c.reserve.ensures.still
    (c.append_at.ensures.any_moment told header entries batch now c.version_bytes-bytes.ensures.bytes size rests only')

pub returns-clause-any_moment : goal.returns-clause-any_moment
returns-clause-any_moment g c = λ told header entries now size rests only.
    let old = c.args.disk.now in
    let mid = c.reserve.new.self in
    let new = c.append_at.new.disk in
    let batch : List Entry = version_entry c.args.current.now ∷ [] in
    let only' : Only now (g.D.Disk.may_leave mid) = λ x left. only x ((c.reserve.ensures.still.images x).0 left) in
    still_on g.D.Disk.moment g.D.Disk.left_since old mid new (IsBeforeOrAfter header entries batch) (g.D.Disk.may_leave old) (g.D.Disk.may_leave mid) c.reserve.ensures.still
    (c.append_at.ensures.any_moment told header entries batch now c.version_bytes-bytes.ensures.bytes size rests only')

pub returns-clause-appended : goal.returns-clause-appended
returns-clause-appended g c = λ told header entries now size rests only.
    let mid = c.reserve.new.self in
    let only' : Only now (g.D.Disk.may_leave mid) = λ x left. only x ((c.reserve.ensures.still.images x).0 left) in
    c.in_ok-append_at.ensures.appended told header entries (version_entry c.args.current.now ∷ []) now c.version_bytes-bytes.ensures.bytes size rests only'
