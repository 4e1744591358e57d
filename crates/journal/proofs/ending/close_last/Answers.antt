use Rattle.std.proofs.Common.{◌≢◌, get_or, sym, ◌∙◌, subst}
use Rattle.sv_outside.specs.Disk.{Only, Torn}
use Rattle.journal.specs.Endings.{EndsThere, IsCutAt}
use Rattle.journal.proofs.Moments.{weaker, still_on, resting}
use Rattle.journal.proofs.Repairs.{same_ends, torn_ends, same_cut, first_of}
use Rattle.journal.proofs.ending.close_last.Goals as goal

pub returns-in_err-read_at-clause-any_moment : goal.returns-in_err-read_at-clause-any_moment
returns-in_err-read_at-clause-any_moment g c = λ told.
    let old = c.args.disk.now in
    let image = g.D.Disk.seen old in
    resting g.D.Disk.moment g.D.Disk.left_since old c.read_at.new.self (EndsThere c.args.gate image) (g.D.Disk.may_leave old) (g.D.Disk.may_leave c.read_at.new.self) c.read_at.ensures.still
    (λ x left. same_ends image c.args.gate x (c.requires.last told) (c.requires.durable x (g.met.D.Disk.only_now old x left)))

pub returns-then-last-ne1-clause-any_moment : goal.returns-then-last-ne1-clause-any_moment
returns-then-last-ne1-clause-any_moment g c = λ told.
    let old = c.args.disk.now in
    let image = g.D.Disk.seen old in
    resting g.D.Disk.moment g.D.Disk.left_since old c.read_at.new.self (EndsThere c.args.gate image) (g.D.Disk.may_leave old) (g.D.Disk.may_leave c.read_at.new.self) c.read_at.ensures.still
    (λ x left. same_ends image c.args.gate x (c.requires.last told) (c.requires.durable x (g.met.D.Disk.only_now old x left)))

pub returns-then-last-ne1-clause-cut : goal.returns-then-last-ne1-clause-cut
returns-then-last-ne1-clause-cut g c = λ told.
    let image = g.D.Disk.seen c.args.disk.now in
    let ne : get_or image c.args.gate 0 ≢ 1 = λ e. c.if-last-ne1.true (first_of image c.read_at.new.into c.args.gate (c.in_ok-read_at.ensures.read told) ∙ e) in
    subst (IsCutAt c.args.gate image) (sym c.read_at.ensures.seen) (same_cut image c.args.gate (c.requires.last told) ne)

pub returns-clause-any_moment : goal.returns-clause-any_moment
returns-clause-any_moment g c = λ told.
    let old = c.args.disk.now in
    let mid = c.read_at.new.self in
    let new = c.write_synced.new.disk in
    let image = g.D.Disk.seen old in
    let only : Only image (g.D.Disk.may_leave mid) = λ x left. c.requires.durable x ((c.read_at.ensures.still.images x).0 left) in
    still_on g.D.Disk.moment g.D.Disk.left_since old mid new (EndsThere c.args.gate image) (g.D.Disk.may_leave old) (g.D.Disk.may_leave mid) c.read_at.ensures.still
    (weaker g.D.Disk.moment g.D.Disk.left_since mid new (Torn c.args.gate 1 image) (EndsThere c.args.gate image) (c.write_synced.ensures.any_moment told image only)
    (λ x t. torn_ends image c.args.gate x (c.requires.last told) t))
