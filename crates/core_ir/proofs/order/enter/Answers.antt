use Rattle.core_ir.proofs.Walks.{entered_block, entered_loop, entered_if}
use Rattle.core_ir.proofs.order.enter.Goals as goal

pub returns-in_ok-push-in-If-2 : goal.returns-in_ok-push-in-If-2
returns-in_ok-push-in-If-2 c = entered_if c.args.step.now c.in-If.cond c.in-If.then c.in-If.other c.args.left.now.items c.push.new.self.items c.push-in-If.new.self.items c.deref-in-If.result c.deref.result c.in-If.is c.deref.ensures.value c.in_ok-push-in-If.ensures.items c.deref-in-If.ensures.value c.in_ok-push-in-If-2.ensures.items

pub returns-in_ok-push-in-Block : goal.returns-in_ok-push-in-Block
returns-in_ok-push-in-Block c = entered_block c.args.step.now c.in-Block.body c.args.left.now.items c.push-in-Block.new.self.items c.deref-in-Block.result c.in-Block.is c.deref-in-Block.ensures.value c.in_ok-push-in-Block.ensures.items

pub returns-in_ok-push-in-Loop : goal.returns-in_ok-push-in-Loop
returns-in_ok-push-in-Loop c = entered_loop c.args.step.now c.in-Loop.body c.args.left.now.items c.push-in-Loop.new.self.items c.deref-in-Loop.result c.in-Loop.is c.deref-in-Loop.ensures.value c.in_ok-push-in-Loop.ensures.items
