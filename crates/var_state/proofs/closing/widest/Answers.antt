use Rattle.std.proofs.Common.{◌^◌, length}
use Rattle.var_state.proofs.Standing.{within_more, ranged_at}
use Rattle.var_state.proofs.closing.widest.Goals as goal

pub returns-clause-within : goal.returns-clause-within
returns-clause-within c = within_more (length c.args.ranges.now) c.new.result c.new.ensures.size (c.new.ensures.within (2 ^ 80) c.requires.near)

pub returns-clause-ranged : goal.returns-clause-ranged
returns-clause-ranged c = ranged_at (length c.args.ranges.now) c.new.result c.new.ensures.size (c.new.ensures.ranged (2 ^ 80) c.requires.near)
