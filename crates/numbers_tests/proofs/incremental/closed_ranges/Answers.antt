use Rattle.std.proofs.Common.{◌^◌, arith, rules}
use Rattle.numbers_tests.proofs.TwoRanges.{two_ranges}
use Rattle.numbers_tests.proofs.incremental.closed_ranges.Goals as goal

pub close-requires : goal.close-requires
close-requires g c = record { within = c.new-m.ensures.within (2 ^ 90) (two_ranges (2 ^ 90) (omega arith)) }

pub returns-clause-within : goal.returns-clause-within
returns-clause-within g c = c.close.ensures.within (search rules) 10 (c.new-m.ensures.ranged 10 (two_ranges 10 (omega arith)))
