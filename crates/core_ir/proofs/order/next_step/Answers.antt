use Rattle.core_ir.proofs.Walks.{passed_over, first_taken, empty_of}
use Rattle.core_ir.proofs.order.next_step.Goals as goal

pub returns-in-Some-split_first : goal.returns-in-Some-split_first
returns-in-Some-split_first c = first_taken c.args.left.now.items c.loop-steps.left.items c.pop.new.self.items c.push.new.self.items c.in-Some.steps c.in-Some-split_first.rest c.in-Some-split_first.first.now c.loop-steps.invariant c.in-Some.ensures.items c.in-Some-split_first.ensures.cases.0 c.in_ok-push.ensures.items

pub loop-steps-preserved : goal.loop-steps-preserved
loop-steps-preserved c = passed_over c.args.left.now.items c.loop-steps.left.items c.pop.new.self.items c.in-Some.steps c.loop-steps.invariant c.in-Some.ensures.items (empty_of c.in-Some.steps.now c.in_default-split_first.ensures.cases)
