use Rattle.std.proofs.Common.{◌≡◌, map, take, drop}
use Rattle.lease_table.specs.Standings.{expired}
use Rattle.lease_table.proofs.tasks.free_run_out.Given as goal

abbrev pub invariant-loop-standing : goal.invariant-loop-standing
invariant-loop-standing l = record {
  done : take l.standing-index l.standings ≡ map (expired l.now) (take l.standing-index l.fn.standings);
  left : drop l.standing-index l.standings ≡ drop l.standing-index l.fn.standings;
}
