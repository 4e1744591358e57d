use Rattle.points_to.proofs.Lists.{empty_pushed}
use Rattle.points_to.proofs.progress.empty_sets.Goals as goal

pub loop-preserved : goal.loop-preserved
loop-preserved c = empty_pushed c.loop.counter c.loop.sets.items c.push.new.self.items c.new.result c.loop.invariant c.in_ok-push.ensures.items c.new.ensures
