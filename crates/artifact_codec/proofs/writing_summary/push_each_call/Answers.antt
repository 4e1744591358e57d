use Rattle.core_ir.specs.Plain.{call_of}
use Rattle.artifact_codec.specs.Demands.{is_call}
use Rattle.artifact_codec.proofs.Short.{passes_at}
use Rattle.artifact_codec.proofs.writing_summary.push_each_call.Goals as goal

pub push_call-requires : goal.push_call-requires
push_call-requires c = rw c.c-item.is (passes_at is_call call_of c.args.calls.now c.loop-c.c-index _ c.requires c.loop-c-test.true)
