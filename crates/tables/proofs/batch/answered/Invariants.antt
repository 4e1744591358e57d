use Rattle.std.proofs.Common.{◌≡◌, map, take, drop}
use Rattle.tables.specs.Batches.{instead}
use Rattle.tables.proofs.batch.answered.Given as goal

abbrev pub invariant-loop-each : goal.invariant-loop-each
invariant-loop-each l = record {
  done : take l.each-index l.each-items ≡ map (instead l.answer) (take l.each-index l.fn.answers.items);
  left : drop l.each-index l.each-items ≡ drop l.each-index l.fn.answers.items;
}
