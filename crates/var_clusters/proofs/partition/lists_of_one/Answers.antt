use Rattle.std.proofs.Common.{◌++◌, ◌∷◌, [], ap, ◌∙◌}
use Rattle.core_ir.specs.Plain.{lists_of}
use Rattle.var_clusters.proofs.Partitions.{pushed_one}
use Rattle.var_clusters.proofs.partition.lists_of_one.Goals as goal

pub loop-r-preserved : goal.loop-r-preserved
loop-r-preserved c =
    ap lists_of c.in_ok-push-2.ensures.items
    ∙ pushed_one c.loop-r.lists.items c.push.new.self c.loop-r.r c.loop-r.invariant (c.in_ok-push.ensures.items ∙ ap (λ z. z ++ c.loop-r.r ∷ []) c.new-one.ensures.items)
