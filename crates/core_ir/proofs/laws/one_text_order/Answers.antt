use Rattle.core_ir.proofs.PlainOrder.{plain_order}
use Rattle.core_ir.proofs.laws.one_text_order.Goals as goal

pub returns : goal.returns
returns c = plain_order
