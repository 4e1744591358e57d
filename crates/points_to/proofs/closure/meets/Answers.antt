use Rattle.core_ir.specs.Plain.{lists_of}
use Rattle.points_to.specs.declared.rule.Rule.TheVariants as rules
use Rattle.points_to.proofs.Meeting.{by_rule, load_meets, store_meets, part_meets, copy_meets, argument_meets, result_meets}
use Rattle.points_to.proofs.closure.meets.Goals as goal

pub returns-in-Load : goal.returns-in-Load
returns-in-Load c =
    by_rule c.args.classes.now (lists_of c.args.sets.now) c.args.constraint c.meets_load.result rules.Load c.in-Load.ensures
    (load_meets c.args.classes.now (lists_of c.args.sets.now) c.args.constraint c.meets_load.result c.meets_load.ensures)

pub returns-in-Store : goal.returns-in-Store
returns-in-Store c =
    by_rule c.args.classes.now (lists_of c.args.sets.now) c.args.constraint c.meets_store.result rules.Store c.in-Store.ensures
    (store_meets c.args.classes.now (lists_of c.args.sets.now) c.args.constraint c.meets_store.result c.meets_store.ensures)

pub returns-in-SubObject : goal.returns-in-SubObject
returns-in-SubObject c =
    by_rule c.args.classes.now (lists_of c.args.sets.now) c.args.constraint c.meets_part.result rules.SubObject c.in-SubObject.ensures
    (part_meets c.args.classes.now (lists_of c.args.sets.now) c.args.constraint c.meets_part.result c.meets_part.ensures)

pub returns-in-ObjectCopy : goal.returns-in-ObjectCopy
returns-in-ObjectCopy c =
    by_rule c.args.classes.now (lists_of c.args.sets.now) c.args.constraint c.meets_object_copy.result rules.ObjectCopy c.in-ObjectCopy.ensures
    (copy_meets c.args.classes.now (lists_of c.args.sets.now) c.args.constraint c.meets_object_copy.result c.meets_object_copy.ensures)

pub returns-in-Argument : goal.returns-in-Argument
returns-in-Argument c =
    by_rule c.args.classes.now (lists_of c.args.sets.now) c.args.constraint c.meets_argument.result rules.Argument c.in-Argument.ensures
    (argument_meets c.args.classes.now (lists_of c.args.sets.now) c.args.constraint c.meets_argument.result c.meets_argument.ensures)

pub returns-in-Result : goal.returns-in-Result
returns-in-Result c =
    by_rule c.args.classes.now (lists_of c.args.sets.now) c.args.constraint c.meets_result.result rules.Result c.in-Result.ensures
    (result_meets c.args.classes.now (lists_of c.args.sets.now) c.args.constraint c.meets_result.result c.meets_result.ensures)
