use Rattle.std.proofs.Common.{◌<◌, length, ap, sym, ◌∙◌, ◌++◌, ◌∷◌, [], set, List, Option, ℕ}
use Rattle.core_ir.specs.declared.artifacts.Constraint.{Constraint}
use Rattle.points_to.specs.computed.Readers.{constraint_lists, entered}
use Rattle.points_to.proofs.Lists.{items_at, items_set}
use Rattle.points_to.proofs.readers.enter.Goals as goal

pub returns-in-Some : goal.returns-in-Some
returns-in-Some c =
    let vecs = c.args.lists.now.items in
    let inside : c.in-Some.node < length vecs = c.requires c.in-Some.node c.in-Some.is in
    items_set vecs c.in-Some.node c.push.new.self
    ∙ ap (λ (list : List Constraint). set (constraint_lists vecs) c.in-Some.node list) (c.in_ok-push-in-Some.ensures.items ∙ ap (λ (list : List Constraint). list ++ c.args.constraint ∷ []) (sym (items_at vecs c.in-Some.node c.index_mut.result.now inside c.index_mut.ensures.value)))
    ∙ ap (λ (o : Option ℕ). entered o c.args.constraint (constraint_lists vecs)) (sym c.in-Some.is)
