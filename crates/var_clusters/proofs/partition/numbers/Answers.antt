use Rattle.std.proofs.Common.{◌++◌, ◌∷◌, [], sym, ap, ◌∙◌, arith}
use Rattle.std.specs.List.{range_with_len}
use Rattle.var_clusters.proofs.Partitions.{range_more}
use Rattle.var_clusters.proofs.partition.numbers.Goals as goal

pub loop-r-preserved : goal.loop-r-preserved
loop-r-preserved c =
    c.in_ok-push.ensures.items
    ∙ ap (λ z. z ++ c.loop-r.r ∷ []) c.loop-r.invariant
    ∙ ap (λ m. range_with_len 0 c.loop-r.r ++ m ∷ []) (omega arith)
    ∙ sym (range_more 0 c.loop-r.r)
