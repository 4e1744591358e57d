use Rattle.std.proofs.Common.{◌≡◌, true, ℕ, List, inr, subst, Ok, Option}
use Rattle.sv_outside.specs.Disk.{LeavesOnly}
use Rattle.journal.specs.declared.digests.Digests.{Digests}
use Rattle.journal.specs.declared.kept.Kept.{Kept}
use Rattle.journal.specs.Endings.{EndsThere, LeftByReading}
use Rattle.journal.specs.Format.{Entry}
use Rattle.journal.specs.Nexts.{ReadsOn, ComesToEnd}
use Rattle.journal.specs.Scans.{HasRead}
use Rattle.journal.proofs.Moments.{weaker, still_on}
use Rattle.journal.proofs.Ends.{ends_share}
use Rattle.journal.proofs.reading.advance.Goals as goal
use Rattle.journal.proofs.reading.advance.Goals.{After-settle}
use Rattle.journal.proofs.reading.advance.Given.{Over}

-- a crash while the end is mended shares the list of what was read
mended : (g : Over) (c : After-settle g) → g.D.Disk.told ≡ true → (digests : Digests) (entries : List Entry) → HasRead digests entries c.args.scan.now (g.D.Disk.seen c.args.disk.now)
    → LeavesOnly g.D.Disk.moment g.D.Disk.left_since c.args.disk.now c.settle.new.disk (LeftByReading digests (g.D.Disk.seen c.args.disk.now))
mended g c told digests entries read =
    let old = c.args.disk.now in
    let mid = c.read_on.new.disk in
    let new = c.settle.new.disk in
    let image = g.D.Disk.seen old in
    let scan = c.read_on.new.scan in
    let end : ComesToEnd digests entries image scan = subst (λ (o : Option Kept). ReadsOn digests entries c.args.scan.now.version image scan (Ok o)) c.in-Ok-None.field-0-is (c.in-Ok-None.ensures.reads told digests entries read) in
    let ends = subst (λ (l : List ℕ). LeavesOnly g.D.Disk.moment g.D.Disk.left_since mid new (EndsThere scan.at l)) c.read_on.ensures.seen (c.settle.ensures.any_moment told) in
    still_on g.D.Disk.moment g.D.Disk.left_since old mid new (LeftByReading digests image) (g.D.Disk.may_leave old) (g.D.Disk.may_leave mid) c.read_on.ensures.still
    (weaker g.D.Disk.moment g.D.Disk.left_since mid new (EndsThere scan.at image) (LeftByReading digests image) ends (λ x t. inr (ends_share digests _ scan image end.read x end.closed t)))

pub returns-in-Ok-clause-any_moment : goal.returns-in-Ok-clause-any_moment
returns-in-Ok-clause-any_moment g c = mended g (goal.at.returns-in-Ok-clause-any_moment g c).After-settle

pub returns-in-Err-settle-clause-any_moment : goal.returns-in-Err-settle-clause-any_moment
returns-in-Err-settle-clause-any_moment g c = mended g (goal.at.returns-in-Err-settle-clause-any_moment g c).After-settle
