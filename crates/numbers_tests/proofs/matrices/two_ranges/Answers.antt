use Rattle.std.proofs.Common.{◌^◌, arith}
use Rattle.std.proofs.lemmas.Int.{ints}
use Rattle.dbm_matrix.specs.Bounds.{bound}
use Rattle.dbm_matrix.proofs.Magnitudes.{within_more, ranged_stands}
use Rattle.numbers_tests.proofs.TwoRanges.{two_ranges}
use Rattle.numbers_tests.proofs.matrices.two_ranges.Goals as goal

pub must_close-requires : goal.must_close-requires
must_close-requires g c = record { within = c.add_bound.ensures.within (2 ^ 90) (omega (arith, ints)) (c.new-m.ensures.within (2 ^ 90) (two_ranges (2 ^ 90) (omega arith))) }

pub bounds_of-requires-clause-within : goal.bounds_of-requires-clause-within
bounds_of-requires-clause-within g c = within_more 20 (2 ^ 90) c.must_close.new.m.size (bound c.must_close.new.m) (omega arith)
    (c.must_close.ensures.within 10 (c.add_bound.ensures.ranged 10 (c.new-m.ensures.ranged 10 (two_ranges 10 (omega arith)))))

pub bounds_of-requires-clause-bounded : goal.bounds_of-requires-clause-bounded
bounds_of-requires-clause-bounded g c = ranged_stands 10 c.must_close.new.m.size (bound c.must_close.new.m)
    (c.must_close.ensures.ranged 10 (c.add_bound.ensures.ranged 10 (c.new-m.ensures.ranged 10 (two_ranges 10 (omega arith))))) 1 (omega arith)
    (omega (arith, c.must_close.ensures.size, c.add_bound.ensures.size, c.new-m.ensures.size))

pub bounds_of-requires-2-clause-within : goal.bounds_of-requires-2-clause-within
bounds_of-requires-2-clause-within g c = within_more 20 (2 ^ 90) c.must_close.new.m.size (bound c.must_close.new.m) (omega arith)
    (c.must_close.ensures.within 10 (c.add_bound.ensures.ranged 10 (c.new-m.ensures.ranged 10 (two_ranges 10 (omega arith)))))

pub bounds_of-requires-2-clause-bounded : goal.bounds_of-requires-2-clause-bounded
bounds_of-requires-2-clause-bounded g c = ranged_stands 10 c.must_close.new.m.size (bound c.must_close.new.m)
    (c.must_close.ensures.ranged 10 (c.add_bound.ensures.ranged 10 (c.new-m.ensures.ranged 10 (two_ranges 10 (omega arith))))) 2 (omega arith)
    (omega (arith, c.must_close.ensures.size, c.add_bound.ensures.size, c.new-m.ensures.size))

pub close-requires : goal.close-requires
close-requires g c = record {
  within = c.add_bound-2.ensures.within (2 ^ 90) (omega (arith, ints)) (within_more 20 (2 ^ 90) c.must_close.new.m.size (bound c.must_close.new.m) (omega arith)
      (c.must_close.ensures.within 10 (c.add_bound.ensures.ranged 10 (c.new-m.ensures.ranged 10 (two_ranges 10 (omega arith))))));
}
