use Rattle.std.proofs.Common.{◌^◌, arith}
use Rattle.std.proofs.lemmas.Int.{ints}
use Rattle.dbm_matrix.specs.Bounds.{bound}
use Rattle.dbm_matrix.proofs.Magnitudes.{within_more}
use Rattle.numbers_tests.proofs.TwoRanges.{two_ranges}
use Rattle.numbers_tests.proofs.matrices.copies.Goals as goal

pub close-requires : goal.close-requires
close-requires g c = record {
  within = c.copy.ensures.within (2 ^ 90) (omega (arith, ints)) (c.forget.ensures.within (2 ^ 90)
      (within_more 20 (2 ^ 90) c.must_close.new.m.size (bound c.must_close.new.m) (omega arith)
      (c.must_close.ensures.within 10 (c.new-m.ensures.ranged 10 (two_ranges 10 (omega arith))))));
}
