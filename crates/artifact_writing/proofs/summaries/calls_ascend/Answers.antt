use Rattle.std.proofs.Common.{arith, ap, sym, ◌∙◌, nat_lt}
use Rattle.artifact_codec.specs.Demands.{is_after}
use Rattle.core_ir.specs.declared.artifacts.CallPart.{CallPart}
use Rattle.artifact_writing.proofs.Callees.{refused, accepted}
use Rattle.artifact_writing.proofs.summaries.calls_ascend.Goals as goal

pub returns-then-not-is_above : goal.returns-then-not-is_above
returns-then-not-is_above c =
    let x = c.c-item.result in
    refused c.loop-c.last c.args.calls.now c.loop-c.c-index x c.loop-c-test.true
    (ap (λ (z : CallPart). is_after nat_lt c.loop-c.last z.callee) (sym c.c-item.is) ∙ (sym c.is_above.ensures ∙ c.if-not-is_above.true)) c.loop-c.invariant

pub returns : goal.returns
returns c = accepted c.loop-c.last c.args.calls.now c.loop-c.c-index (omega arith) c.loop-c.invariant
