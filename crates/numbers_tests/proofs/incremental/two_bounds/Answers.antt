use Rattle.std.proofs.Common.{◌^◌, arith}
use Rattle.dbm_matrix.specs.Bounds.{bound}
use Rattle.dbm_matrix.proofs.Magnitudes.{within_more}
use Rattle.numbers_tests.proofs.incremental.two_bounds.Goals as goal

pub flush-requires-clause-within : goal.flush-requires-clause-within
flush-requires-clause-within g c = within_more 20 (2 ^ 90) c.closed_ranges-m.result.size (bound c.closed_ranges-m.result) (omega arith) c.closed_ranges-m.ensures.within
