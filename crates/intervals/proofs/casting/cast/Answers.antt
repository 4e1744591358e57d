use Rattle.std.proofs.Common.{subst, sym}
use Rattle.c_values.specs.Conversions.{converted}
use Rattle.intervals.specs.Intervals.{Has, IsIn}
use Rattle.intervals.proofs.ConversionLaws.{cast_has, cast_in}
use Rattle.intervals.proofs.casting.cast.Goals as goal

pub returns-clause-contains : goal.returns-clause-contains
returns-clause-contains c z h = subst (λ i. Has i (converted c.args.t z)) (sym c.compute.ensures.value) (cast_has c.args.t c.args.a z h)

pub returns-clause-inside : goal.returns-clause-inside
returns-clause-inside c = subst (IsIn c.args.t) (sym c.compute.ensures.value) (cast_in c.args.t c.args.a c.requires.a.order)
