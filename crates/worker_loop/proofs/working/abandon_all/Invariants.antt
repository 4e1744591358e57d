use Rattle.std.proofs.Common.{◌≡◌}
use Rattle.tables.specs.Sound.{IsSound}
use Rattle.worker_loop.proofs.working.abandon_all.Given as goal

abbrev pub invariant-tasks : goal.invariant-tasks
invariant-tasks g l = record {
  sound : IsSound {D = g.row.D.Denot} {W = g.row.W.Denot} {B = g.row.W-Basis.Denot} {V = g.row.W-View.Denot} g.D.Disk.told g.D.Disk.seen g.D.Disk.faults l.tables;
  opening : l.tables.opening ≡ l.fn.tables.opening;
}
