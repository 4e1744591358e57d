use Rattle.std.proofs.Common.{◌^◌, ◌-◌}
use Rattle.lease_table.proofs.Tree.{Descends}
use Rattle.lease_table.proofs.times.first_due.Given as goal

abbrev pub invariant-loop-level : goal.invariant-loop-level
invariant-loop-level l = Descends l.now l.height l.nodes (2 ^ (l.height - l.level)) l.at
