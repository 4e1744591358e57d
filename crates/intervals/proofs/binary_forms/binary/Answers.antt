use Rattle.std.proofs.Common.{subst, sym}
use Rattle.intervals.specs.Intervals.{Fits, Holds}
use Rattle.intervals.proofs.Laws.{binary_has, binary_in}
use Rattle.intervals.proofs.binary_forms.binary.Goals as goal

pub returns-clause-contains : goal.returns-clause-contains
returns-clause-contains c x y r h k e =
    subst (λ o. Holds o r) (sym c.compute.ensures.value) (binary_has c.args.op c.args.t c.args.a c.args.b x y r c.requires.a c.requires.b h k e)

pub returns-clause-inside : goal.returns-clause-inside
returns-clause-inside c = subst (Fits c.args.t) (sym c.compute.ensures.value) (binary_in c.args.op c.args.t c.args.a c.args.b c.requires.a c.requires.b)
