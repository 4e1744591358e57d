use Rattle.std.proofs.Common.{◌<◌, subst}
use Rattle.tables.specs.Works.{HasTask}
use Rattle.tables.proofs.Steps.{kept_first}
use Rattle.tables.proofs.rounds.Rounds.new.Goals as goal

pub invariant_of-result : goal.invariant_of-result
invariant_of-result g c =
    let some : 0 < c.in-Round.tasks = subst (HasTask {B = g.row.B.Denot}) c.in-Round.is c.requires in
    kept_first c.in_ok-lease-in-Round.lease c.begin.new.self c.new-shelf.result c.in-Round.basis c.new-in-Round.result c.in-Round.tasks some c.in_ok-lease-in-Round.ensures.started c.new-shelf.ensures.rows c.in_ok-begin-in-Round.ensures.begun c.new-in-Round.ensures.items
