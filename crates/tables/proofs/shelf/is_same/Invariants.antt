use Rattle.std.proofs.Common.{◌≡◌, length, map, drop}
use Rattle.tables.specs.Shelves.{bytes_in, is_same}
use Rattle.tables.proofs.shelf.is_same.Given as goal

abbrev pub invariant-loop-task : goal.invariant-loop-task
invariant-loop-task l = record {
  long : length l.before ≡ length l.now;
  behind : is_same (map bytes_in (drop l.task l.before)) (map bytes_in (drop l.task l.now)) ≡ is_same (map bytes_in l.before) (map bytes_in l.now);
}
