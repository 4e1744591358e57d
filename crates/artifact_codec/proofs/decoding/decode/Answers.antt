use Rattle.std.proofs.Common.{arith}
use Rattle.core_ir.specs.Plain.{stored_of}
use Rattle.artifact_codec.proofs.Whole.{answer_found, answer_none}
use Rattle.artifact_codec.proofs.decoding.decode.Goals as goal

pub returns-clause-found : goal.returns-clause-found
returns-clause-found c = answer_found stored_of c.decoded.result c.args.bytes.now (λ i. omega (arith, c.type_inv.bytes i)) c.decoded.ensures

pub returns-clause-none : goal.returns-clause-none
returns-clause-none c = answer_none stored_of c.decoded.result c.args.bytes.now c.decoded.ensures
