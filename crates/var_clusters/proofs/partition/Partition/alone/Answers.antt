use Rattle.std.proofs.Common.{sym, subst₂}
use Rattle.var_clusters.specs.computed.Partition.{AreLists}
use Rattle.var_clusters.proofs.Partitions.{alone_lists}
use Rattle.var_clusters.proofs.partition.Partition.alone.Goals as goal

pub returns : goal.returns
returns c = (subst₂ AreLists (sym c.in_ok-firsts.ensures) (sym c.in_ok-members.ensures) (alone_lists c.args.count), c.in_ok-firsts.ensures)
