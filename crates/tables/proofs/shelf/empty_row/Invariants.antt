use Rattle.std.proofs.Common.{◌≡◌, None, replicate, vec_capacity, ◌≤◌}
use Rattle.tables.proofs.shelf.empty_row.Given as goal

abbrev pub invariant-loop-done : goal.invariant-loop-done
invariant-loop-done l = record {
  filled : l.row.items ≡ replicate l._done None;
  room : l.tasks ≤ vec_capacity l.row;
}
