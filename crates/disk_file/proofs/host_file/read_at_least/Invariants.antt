use Rattle.std.proofs.Common.{◌≡◌, ◌≤◌, length}
use Rattle.disk_file.proofs.host_file.read_at_least.Given as goal

abbrev pub invariant-loop : goal.invariant-loop
invariant-loop l = record {
  inside : l.count ≤ length l.into;
  same : length l.into ≡ length l.fn.into;
}
