use Rattle.std.proofs.Common.{◌≡◌}
use Rattle.tables.specs.Sound.{IsSound}
use Rattle.worker_loop.specs.Left.{left}
use Rattle.worker_loop.proofs.finishing.finish.Given as goal

abbrev pub invariant-turns : goal.invariant-turns
invariant-turns g l = record {
  sound : IsSound {D = g.row.D.Denot} {W = g.row.W.Denot} {B = g.row.W-Basis.Denot} {V = g.row.W-View.Denot} g.D.Disk.told g.D.Disk.seen g.D.Disk.faults l.tables;
  opening : l.tables.opening ≡ l.fn.tables.opening;
}

abbrev pub decreases-turns : goal.decreases-turns
decreases-turns g l = left {D = g.row.D.Denot} {W = g.row.W.Denot} {B = g.row.W-Basis.Denot} {V = g.row.W-View.Denot} l.tables
