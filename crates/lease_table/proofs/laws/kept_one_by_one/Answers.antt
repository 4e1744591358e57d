use Rattle.lease_table.proofs.Reopening.{start, keep, next_round}
use Rattle.lease_table.proofs.laws.kept_one_by_one.Goals as goal

pub returns-clause-start : goal.returns-clause-start
returns-clause-start c = start

pub returns-clause-keep : goal.returns-clause-keep
returns-clause-keep c = keep

pub returns-clause-next_round : goal.returns-clause-next_round
returns-clause-next_round c = next_round
