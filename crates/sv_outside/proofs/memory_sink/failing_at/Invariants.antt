use Rattle.std.proofs.Common.{◌≡◌, drop}
use Rattle.sv_outside.specs.Memory.{failing_at}
use Rattle.sv_outside.proofs.memory_sink.failing_at.Given as goal

abbrev pub invariant-loop-pair : goal.invariant-loop-pair
invariant-loop-pair l = failing_at (drop l.pair-index l.failing) l.number ≡ failing_at l.failing l.number
