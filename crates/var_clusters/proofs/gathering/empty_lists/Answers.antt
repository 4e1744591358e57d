use Rattle.std.proofs.Common.{ap, ◌∙◌}
use Rattle.core_ir.specs.Plain.{lists_of}
use Rattle.var_clusters.proofs.Placings.{pushed_empty}
use Rattle.var_clusters.proofs.gathering.empty_lists.Goals as goal

pub loop-preserved : goal.loop-preserved
loop-preserved c = ap lists_of c.in_ok-push.ensures.items ∙ pushed_empty c.loop.lists.items c.new.result c.loop.counter c.loop.invariant c.new.ensures.items
