use Rattle.std.proofs.Common.{◌∙◌}
use Rattle.points_to.specs.Families.{Has}
use Rattle.points_to.specs.computed.Progress.{edges_of, known_of}
use Rattle.std.proofs.lemmas.Result.{on_ok_weaker}
use Rattle.points_to.specs.declared.rule.Rule.TheVariants as rules
use Rattle.points_to.specs.Rules.{rule_of}
use Rattle.points_to.specs.computed.Solving.{Opens}
use Rattle.points_to.proofs.Steps.{idle}
use Rattle.points_to.proofs.Running.{opens_as, opens_other}
use Rattle.points_to.proofs.solving.open.Goals as goal

pub returns-in-Address : goal.returns-in-Address
returns-in-Address c = on_ok_weaker c.add.result (λ h. opens_as rules.Address c.args.constraint c.args.found.now c.add.new.self c.in-Address.ensures h) c.add.ensures

pub returns-in-Copy : goal.returns-in-Copy
returns-in-Copy c = on_ok_weaker c.link.result (λ h. opens_as rules.Copy c.args.constraint c.args.found.now c.link.new.self c.in-Copy.ensures h) c.link.ensures

pub returns-in_default : goal.returns-in_default
returns-in_default c =
    let r = rule_of c.args.constraint.rule in
    idle (Opens r c.args.constraint) c.args.found.now c.requires.stands
    (opens_other r c.args.constraint (Has (edges_of c.args.found.now)) (Has (known_of c.args.found.now)) (λ e. c.in_default.not-Address (c.rule_of.ensures ∙ e)) (λ e. c.in_default.not-Copy (c.rule_of.ensures ∙ e)))
