use Rattle.std.proofs.Common.{ℕ, ◌≡◌}
use Rattle.std.proofs.lemmas.Result.{on_ok_weaker}
use Rattle.points_to.specs.declared.rule.Rule.TheVariants as rules
use Rattle.points_to.specs.Families.{Has}
use Rattle.points_to.specs.computed.Progress.{done_of}
use Rattle.points_to.proofs.Demanding.{as_rule, argument_one, copy_to_one, store_one}
use Rattle.points_to.proofs.reacting.react_to_target.Goals as goal

pub returns-in-Store : goal.returns-in-Store
returns-in-Store c =
    on_ok_weaker c.give_leaves.result
    (λ h. as_rule c.args.classes.now rules.Store c.args.constraint (λ (x : ℕ). x ≡ c.args.member) (Has (done_of c.args.found.now) c.args.constraint.source) c.args.found.now c.give_leaves.new.found c.in-Store.ensures
    (store_one c.args.classes.now c.args.constraint c.args.member c.args.found.now c.give_leaves.new.found (Has (done_of c.args.found.now) c.args.constraint.source) h))
    c.give_leaves.ensures

pub returns-in-ObjectCopy : goal.returns-in-ObjectCopy
returns-in-ObjectCopy c =
    on_ok_weaker c.copy_to.result
    (λ h. as_rule c.args.classes.now rules.ObjectCopy c.args.constraint (λ (x : ℕ). x ≡ c.args.member) (Has (done_of c.args.found.now) c.args.constraint.source) c.args.found.now c.copy_to.new.found c.in-ObjectCopy.ensures
    (copy_to_one c.args.classes.now c.args.constraint c.args.member c.args.found.now c.copy_to.new.found (Has (done_of c.args.found.now) c.args.constraint.source) h))
    c.copy_to.ensures

pub returns-in-Argument : goal.returns-in-Argument
returns-in-Argument c =
    on_ok_weaker c.link_found.result
    (λ h. as_rule c.args.classes.now rules.Argument c.args.constraint (λ (x : ℕ). x ≡ c.args.member) (Has (done_of c.args.found.now) c.args.constraint.source) c.args.found.now c.link_found.new.found c.in-Argument.ensures
    (argument_one c.args.classes.now c.args.constraint c.args.member c.args.found.now c.link_found.new.found (Has (done_of c.args.found.now) c.args.constraint.source) c.entry-entry.result c.entry-entry.ensures h))
    c.link_found.ensures
