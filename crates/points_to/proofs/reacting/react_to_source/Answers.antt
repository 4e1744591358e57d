use Rattle.std.proofs.Common.{ℕ, ◌≡◌}
use Rattle.std.proofs.lemmas.Result.{on_ok_weaker}
use Rattle.points_to.specs.declared.rule.Rule.TheVariants as rules
use Rattle.points_to.specs.Families.{Has}
use Rattle.points_to.specs.computed.Progress.{done_of}
use Rattle.points_to.proofs.Demanding.{as_rule, copy_from_one, load_one, part_one, result_one}
use Rattle.points_to.proofs.reacting.react_to_source.Goals as goal

pub returns-in-Load : goal.returns-in-Load
returns-in-Load c =
    on_ok_weaker c.take_leaves.result
    (λ h. as_rule c.args.classes.now rules.Load c.args.constraint (Has (done_of c.args.found.now) c.args.constraint.target) (λ (x : ℕ). x ≡ c.args.member) c.args.found.now c.take_leaves.new.found c.in-Load.ensures
    (load_one c.args.classes.now c.args.constraint c.args.member c.args.found.now c.take_leaves.new.found (Has (done_of c.args.found.now) c.args.constraint.target) h))
    c.take_leaves.ensures

pub returns-in-SubObject : goal.returns-in-SubObject
returns-in-SubObject c =
    on_ok_weaker c.take_parts.result
    (λ h. as_rule c.args.classes.now rules.SubObject c.args.constraint (Has (done_of c.args.found.now) c.args.constraint.target) (λ (x : ℕ). x ≡ c.args.member) c.args.found.now c.take_parts.new.found c.in-SubObject.ensures
    (part_one c.args.classes.now c.args.constraint c.args.member c.args.found.now c.take_parts.new.found (Has (done_of c.args.found.now) c.args.constraint.target) h))
    c.take_parts.ensures

pub returns-in-ObjectCopy : goal.returns-in-ObjectCopy
returns-in-ObjectCopy c =
    on_ok_weaker c.copy_from.result
    (λ h. as_rule c.args.classes.now rules.ObjectCopy c.args.constraint (Has (done_of c.args.found.now) c.args.constraint.target) (λ (x : ℕ). x ≡ c.args.member) c.args.found.now c.copy_from.new.found c.in-ObjectCopy.ensures
    (copy_from_one c.args.classes.now c.args.constraint c.args.member c.args.found.now c.copy_from.new.found (Has (done_of c.args.found.now) c.args.constraint.target) h))
    c.copy_from.ensures

pub returns-in-Result : goal.returns-in-Result
returns-in-Result c =
    on_ok_weaker c.link_found.result
    (λ h. as_rule c.args.classes.now rules.Result c.args.constraint (Has (done_of c.args.found.now) c.args.constraint.target) (λ (x : ℕ). x ≡ c.args.member) c.args.found.now c.link_found.new.found c.in-Result.ensures
    (result_one c.args.classes.now c.args.constraint c.args.member c.args.found.now c.link_found.new.found (Has (done_of c.args.found.now) c.args.constraint.target) c.outcome.result c.outcome.ensures h))
    c.link_found.ensures
