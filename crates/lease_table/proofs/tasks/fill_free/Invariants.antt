use Rattle.std.proofs.Common.{◌≡◌, replicate, vec_capacity}
use Rattle.lease_table.specs.declared.standing.Standing.TheVariants.{Free}
use Rattle.lease_table.proofs.tasks.fill_free.Given as goal

abbrev pub invariant-loop-done : goal.invariant-loop-done
invariant-loop-done l = record {
  filled : l.standings.items ≡ replicate l.done Free;
  room : vec_capacity l.standings ≡ vec_capacity l.fn.standings;
}
