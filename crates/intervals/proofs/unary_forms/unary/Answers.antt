use Rattle.std.proofs.Common.{subst, sym}
use Rattle.intervals.specs.Intervals.{Fits, Holds}
use Rattle.intervals.proofs.Laws.{unary_has, unary_in}
use Rattle.intervals.proofs.unary_forms.unary.Goals as goal

pub returns-clause-contains : goal.returns-clause-contains
returns-clause-contains c x r h e = subst (λ o. Holds o r) (sym c.compute.ensures.value) (unary_has c.args.op c.args.t c.args.a x r h e)

pub returns-clause-inside : goal.returns-clause-inside
returns-clause-inside c = subst (Fits c.args.t) (sym c.compute.ensures.value) (unary_in c.args.op c.args.t c.args.a c.requires.a)
