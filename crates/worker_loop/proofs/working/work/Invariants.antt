use Rattle.std.proofs.Common.{◌≡◌}
use Rattle.worker_loop.proofs.working.work.Given as goal

abbrev pub invariant-loop : goal.invariant-loop
invariant-loop g l =
    (goal.iterator-loop g).can_next l.iterator' × (goal.iterator-loop g).is_finite l.iterator'
    × (l.seat.seat.table_id ≡ l.initial.seat.seat.table_id) × (l.seat.seat.me.0.opening ≡ l.initial.seat.seat.me.0.opening)
