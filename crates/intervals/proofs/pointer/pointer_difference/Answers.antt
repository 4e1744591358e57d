use Rattle.std.proofs.Common.{subst, sym}
use Rattle.c_values.specs.declared.int_type.IntType.TheVariants as types
use Rattle.intervals.specs.Intervals.{Fits, Holds}
use Rattle.intervals.proofs.PointerLaws.{difference_has, difference_in}
use Rattle.intervals.proofs.pointer.pointer_difference.Goals as goal

pub returns-clause-contains : goal.returns-clause-contains
returns-clause-contains c x y r h k e i =
    subst (λ o. Holds o r) (sym c.compute.ensures.value) (difference_has c.args.a c.args.b c.args.size x y r c.requires.size h k e i)

pub returns-clause-inside : goal.returns-clause-inside
returns-clause-inside c =
    subst (Fits types.Int) (sym c.compute.ensures.value) (difference_in c.args.a c.args.b c.args.size c.requires.a.order c.requires.b.order)
