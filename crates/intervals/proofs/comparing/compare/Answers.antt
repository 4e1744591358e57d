use Rattle.std.proofs.Common.{◌≡◌, ◌∙◌, subst, sym}
use Rattle.c_values.specs.Comparisons.{compared}
use Rattle.intervals.specs.Comparing.{compared_all, truth}
use Rattle.intervals.specs.Intervals.{Has}
use Rattle.intervals.proofs.ComparisonLaws.{compared_has, compared_one, compared_zero}
use Rattle.intervals.proofs.comparing.compare.Goals as goal

pub returns-clause-contains : goal.returns-clause-contains
returns-clause-contains c x y h k =
    let v : c.truth_of.result ≡ compared_all c.args.c c.args.a c.args.b = cc in
    subst (λ i. Has i (truth (compared c.args.c x y))) (sym v) (compared_has c.args.c c.args.a c.args.b x y h k)

pub returns-clause-one : goal.returns-clause-one
returns-clause-one c h =
    let v : c.truth_of.result ≡ compared_all c.args.c c.args.a c.args.b = cc in
    v ∙ compared_one c.args.c c.args.a c.args.b c.requires.a c.requires.b h

pub returns-clause-zero : goal.returns-clause-zero
returns-clause-zero c h =
    let v : c.truth_of.result ≡ compared_all c.args.c c.args.a c.args.b = cc in
    v ∙ compared_zero c.args.c c.args.a c.args.b c.requires.a c.requires.b h
