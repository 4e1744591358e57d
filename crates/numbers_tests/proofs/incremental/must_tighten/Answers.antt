use Rattle.std.proofs.Common.{◌^◌, arith, rules}
use Rattle.std.proofs.lemmas.Int.{ints}
use Rattle.dbm_matrix.specs.Bounds.{bound}
use Rattle.dbm_matrix.proofs.Magnitudes.{within_more}
use Rattle.numbers_tests.proofs.incremental.must_tighten.Goals as goal

pub tighten-requires-clause-within : goal.tighten-requires-clause-within
tighten-requires-clause-within g c = within_more 20 (2 ^ 124) c.args.m.now.size (bound c.args.m.now) (omega arith) c.requires.within

pub returns-clause-within : goal.returns-clause-within
returns-clause-within g c = within_more 43 (2 ^ 124) c.tighten.new.m.size (bound c.tighten.new.m) (omega arith) (c.tighten.ensures.reach (search rules) 20 3 c.requires.within (omega (arith, ints)))
