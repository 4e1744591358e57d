use Rattle.std.proofs.Common.{◌≡◌, ◌+◌, ◌*◌, ◌≤◌}
use Rattle.journal.specs.Journals.{journal_gate}
use Rattle.tables.specs.Sound.{IsSound}
use Rattle.tables.proofs.tables.Tables.put_all.Given as goal

abbrev pub invariant-loop-publication : goal.invariant-loop-publication
invariant-loop-publication g l = record {
  can : (goal.iterator-loop-publication g).can_next l.publication-iterator;
  ends : (goal.iterator-loop-publication g).is_finite l.publication-iterator;
  sound : IsSound {D = g.row.D.Denot} {W = g.row.W.Denot} {B = g.row.W-Basis.Denot} {V = g.row.W-View.Denot} g.D.Disk.told g.D.Disk.seen g.D.Disk.faults l.self;
  written : 13 * (l.self.rounds.machine.round + 1) ≤ journal_gate l.self.journal;
  opening : l.self.opening ≡ l.fn.self.opening;
  journal : l.self.journal ≡ l.fn.self.journal;
  round : l.self.rounds.machine.round ≡ l.fn.self.rounds.machine.round;
}
