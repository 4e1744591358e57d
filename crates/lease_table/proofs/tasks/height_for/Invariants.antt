use Rattle.std.proofs.Common.{◌≡◌, ◌^◌, ◌≤◌, ◌-◌}
use Rattle.lease_table.proofs.tasks.height_for.Given as goal

abbrev pub invariant-loop-leaves : goal.invariant-loop-leaves
invariant-loop-leaves l = record {
  power : l.leaves ≡ 2 ^ l.height;
  bound : l.height ≤ 32;
}

abbrev pub decreases-loop-leaves : goal.decreases-loop-leaves
decreases-loop-leaves l = 32 - l.height
