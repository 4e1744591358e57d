use Rattle.std.proofs.Common.{Some, get_or, refl, subst}
use Rattle.points_to.specs.computed.Progress.{IsMet}
use Rattle.points_to.specs.Rules.{leaves_in, pointer_node}
use Rattle.points_to.proofs.Links.{AskedEdge, edge_lasts, each_of, gives_all}
use Rattle.points_to.proofs.Steps.{front_more, front_all}
use Rattle.points_to.proofs.linking.give_leaves.Goals as goal

pub loop-leaf-preserved : goal.loop-leaf-preserved
loop-leaf-preserved c =
    front_more (λ leaf. AskedEdge (Some c.args.from) (pointer_node c.args.classes.now leaf)) (λ leaf. edge_lasts (Some c.args.from) (pointer_node c.args.classes.now leaf)) c.leaves-leaf-items.result.now c.loop-leaf.leaf-index 0 (get_or c.leaves-leaf-items.result.now c.loop-leaf.leaf-index 0) c.args.found.now c.loop-leaf.found c.link_found.new.found
    c.loop-leaf-test.true refl c.loop-leaf.invariant
    (subst (λ o. IsMet (AskedEdge (Some c.args.from) o) c.loop-leaf.found c.link_found.new.found) c.pointer.ensures c.in_ok-link_found.ensures)

pub returns : goal.returns
returns c =
    gives_all c.args.classes.now c.args.from c.args.member c.args.found.now c.loop-leaf.found
    (each_of (λ leaf. AskedEdge (Some c.args.from) (pointer_node c.args.classes.now leaf)) c.leaves-leaf-items.result.now (leaves_in c.args.classes.now c.args.member) c.args.found.now c.loop-leaf.found c.leaves-leaf-items.ensures
    (front_all (λ leaf. AskedEdge (Some c.args.from) (pointer_node c.args.classes.now leaf)) c.leaves-leaf-items.result.now c.loop-leaf.leaf-index c.args.found.now c.loop-leaf.found c.loop-leaf-test.false c.loop-leaf.invariant))
