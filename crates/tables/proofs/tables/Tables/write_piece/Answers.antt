use Rattle.tables.proofs.Crashes.{lasts_then, all_or_none}
use Rattle.tables.proofs.tables.Tables.write_piece.Goals as goal

pub returns-in-Ok-append-clause-lasts : goal.returns-in-Ok-append-clause-lasts
returns-in-Ok-append-clause-lasts g c = λ batch is plain.
    lasts_then g.D.Disk.moment g.D.Disk.left_since g.D.Disk.may_leave g.D.Disk.told batch c.args.self.now.journal c.reserve_for.new.self c.append.new.self
    c.reserve_for.ensures.still c.reserve_for.ensures.same.0
    (λ told digests version entries settled. c.in-Ok-append.ensures.appended told digests version entries batch is plain settled)

pub returns-in-Ok-append-clause-any_moment : goal.returns-in-Ok-append-clause-any_moment
returns-in-Ok-append-clause-any_moment g c = λ batch is plain.
    all_or_none g.D.Disk.moment g.D.Disk.left_since g.D.Disk.may_leave g.D.Disk.told batch c.args.self.now.journal c.reserve_for.new.self c.append.new.self
    c.reserve_for.ensures.still c.reserve_for.ensures.same.0 c.reserve_for.ensures.same.1
    (λ told going digests version entries settled. c.append.ensures.any_moment told going digests version entries batch is plain settled)
