use Rattle.std.proofs.Common.{sym, subst, ◌∙◌}
use Rattle.artifact_codec.specs.computed.Windows.{registers, Known}
use Rattle.artifact_codec.proofs.Advance.{by_registers, at_end}
use Rattle.artifact_codec.proofs.window.registers_distinct.Goals as goal

pub returns-in-Err : goal.returns-in-Err
returns-in-Err c = sym (by_registers c.args.bytes.now ∙ c.in-Err.ensures)

pub returns : goal.returns
returns c = sym (by_registers c.args.bytes.now ∙ at_end (registers c.args.bytes.now) (subst (λ o. Known o (registers c.args.bytes.now)) c.in_default.is c.loop-low.invariant))
