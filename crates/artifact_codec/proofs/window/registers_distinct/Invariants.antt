use Rattle.artifact_codec.specs.computed.Windows.{registers, Known}
use Rattle.artifact_codec.proofs.Advance.{left}
use Rattle.artifact_codec.proofs.window.registers_distinct.Given as goal

abbrev pub invariant-loop-low : goal.invariant-loop-low
invariant-loop-low l = Known l.low (registers l.bytes)

abbrev pub decreases-loop-low : goal.decreases-loop-low
decreases-loop-low l = left l.low
