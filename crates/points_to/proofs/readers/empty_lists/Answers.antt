use Rattle.std.proofs.Common.{ap, ◌∙◌}
use Rattle.points_to.specs.computed.Readers.{constraint_lists}
use Rattle.points_to.proofs.Lists.{empty_pushed, lists_push}
use Rattle.points_to.proofs.readers.empty_lists.Goals as goal

pub loop-preserved : goal.loop-preserved
loop-preserved c =
    empty_pushed c.loop.counter (constraint_lists c.loop.lists.items) (constraint_lists c.push.new.self.items) c.new.result.items c.loop.invariant
    (ap constraint_lists c.in_ok-push.ensures.items ∙ lists_push c.loop.lists.items c.new.result) c.new.ensures.items
