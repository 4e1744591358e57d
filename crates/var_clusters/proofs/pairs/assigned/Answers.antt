use Rattle.std.proofs.Common.{◌∙◌}
use Rattle.std.proofs.lemmas.List.Filters.{dedup_is}
use Rattle.core_ir.specs.Order.{text_order}
use Rattle.var_clusters.proofs.Ordered.{assigned_of}
use Rattle.var_clusters.proofs.pairs.assigned.Goals as goal

pub returns : goal.returns
returns c = dedup_is _ _ _ c.dedup.ensures.filtered ∙ assigned_of c.args.registers.now (text_order c.args.steps.now) c.in_ok-found.found.items c.sort.new.self.items c.in_ok-found.ensures c.sort.ensures.permutation c.in_ok-sort.ensures.sorted
