use Rattle.std.proofs.Common.{◌≡◌, All}
use Rattle.work_crew.proofs.posts.Given as goal

abbrev pub invariant-workers : goal.invariant-workers
invariant-workers g l =
    (l.seat.seat.table_id ≡ l.lock.table.shared.table_id)
    × (l.seat.seat.me.0.opening ≡ l.initial.seat.seat.me.0.opening)
    × All (λ p. (p.1.seat.table_id ≡ l.lock.table.shared.table_id) × (p.1.seat.me.0.opening ≡ l.initial.seat.seat.me.0.opening)) l.posts.items
