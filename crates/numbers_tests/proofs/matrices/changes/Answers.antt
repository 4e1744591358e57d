use Rattle.std.proofs.Common.{◌^◌, arith}
use Rattle.dbm_matrix.specs.Bounds.{bound}
use Rattle.dbm_matrix.proofs.Magnitudes.{within_more}
use Rattle.numbers_tests.proofs.TwoRanges.{two_ranges}
use Rattle.numbers_tests.proofs.matrices.changes.Goals as goal

pub shift-requires-clause-within : goal.shift-requires-clause-within
shift-requires-clause-within g c = within_more 20 (2 ^ 89) c.must_close.new.m.size (bound c.must_close.new.m) (omega arith)
    (c.must_close.ensures.within 10 (c.new-m.ensures.ranged 10 (two_ranges 10 (omega arith))))

pub relax_over-requires-clause-within : goal.relax_over-requires-clause-within
relax_over-requires-clause-within g c = c.join.ensures.within (2 ^ 124)
    (within_more 20 (2 ^ 124) c.must_close.new.m.size (bound c.must_close.new.m) (omega arith)
    (c.must_close.ensures.within 10 (c.new-m.ensures.ranged 10 (two_ranges 10 (omega arith)))))
    (within_more 25 (2 ^ 124) c.shift.new.self.size (bound c.shift.new.self) (omega arith)
    (c.shift.ensures.within 20 (c.must_close.ensures.within 10 (c.new-m.ensures.ranged 10 (two_ranges 10 (omega arith))))))
