use Rattle.std.proofs.Common.{◌≡◌, ◌+◌, Some, List, slice_get, get_or, sym, subst, ◌∙◌}
use Rattle.core_ir.specs.declared.artifacts.Constraint.{Constraint}
use Rattle.points_to.specs.computed.Readers.{constraint_lists}
use Rattle.points_to.proofs.Each.{got_at}
use Rattle.points_to.proofs.Lists.{AreReadersOf, readers_more, readers_all}
use Rattle.points_to.proofs.readers.readers.Goals as goal

abbrev nothing : Constraint
nothing = record { rule = 0; target = 0; source = 0; third = 0 }

pub loop-constraint-preserved : goal.loop-constraint-preserved
loop-constraint-preserved c =
    let i = c.loop-constraint.constraint-index in
    let x = get_or c.args.all.now i nothing in
    let at : slice_get c.args.all.now i ≡ Some x = got_at c.args.all.now i nothing c.loop-constraint-test.true in
    subst (λ (lists : List (List Constraint)). AreReadersOf c.args.side c.args.nodes c.args.all.now (i + 1) lists) (sym c.in_ok-enter.ensures)
    (readers_more c.args.side c.args.nodes c.args.all.now i x (constraint_lists c.loop-constraint.lists.items) c.read_node.result c.read_node.ensures
    (λ n e. c.requires i x at n (sym c.read_node.ensures ∙ e)) at c.loop-constraint.invariant)

pub returns : goal.returns
returns c = readers_all c.args.side c.args.nodes c.args.all.now c.loop-constraint.constraint-index (constraint_lists c.loop-constraint.lists.items) c.loop-constraint-test.false c.loop-constraint.invariant
