use Rattle.std.proofs.Common.{◌≡◌, ◌<◌, ℕ, true, List, length, get_or, refl, ◌∙◌, arith}
use Rattle.points_to.specs.Sets.{has}
use Rattle.points_to.specs.Families.{Relation}
use Rattle.points_to.proofs.Steps.{front_none, front_more, front_all, node_after, along_edges, next_within}
use Rattle.points_to.proofs.progress.Progress.hand_on.Goals as goal

abbrev asked : List ℕ → ℕ → Relation → Relation → Type 0
asked members to flows gets = (member : ℕ) → has members member ≡ true → gets to member

pub add_all-requires-clause-stands : goal.add_all-requires-clause-stands
add_all-requires-clause-stands c = c.loop-to.invariant.met.kept.stands

pub add_all-requires-clause-node : goal.add_all-requires-clause-node
add_all-requires-clause-node c =
    let inside : c.args.node < length c.args.self.now.edges.items = omega (arith, c.requires.stands.edges_size, c.requires.node) in
    node_after c.args.self.now c.loop-to.self (get_or c.deref-to-items.result.now c.loop-to.to-index 0) c.loop-to.invariant.met.kept
    (next_within c.args.self.now c.args.node c.index.result.now c.deref-to-items.result.now c.loop-to.to-index c.requires.stands inside c.index.ensures
    (c.deref-to-items.ensures.value ∙ c.in_ok-nexts.ensures.members) c.loop-to-test.true)

pub loop-to-init : goal.loop-to-init
loop-to-init c = record { met = front_none (asked c.args.members.now) c.deref-to-items.result.now c.args.self.now c.requires.stands; edges = refl }

pub loop-to-preserved : goal.loop-to-preserved
loop-to-preserved c = record {
  met = front_more (asked c.args.members.now) (λ to p q kept met m h. kept.known to m (met m h)) c.deref-to-items.result.now c.loop-to.to-index 0 (get_or c.deref-to-items.result.now c.loop-to.to-index 0)
      c.args.self.now c.loop-to.self c.add_all.new.self c.loop-to-test.true refl c.loop-to.invariant.met c.in_ok-add_all.ensures.met;
  edges = c.in_ok-add_all.ensures.edges ∙ c.loop-to.invariant.edges;
}

pub returns-clause-met : goal.returns-clause-met
returns-clause-met c =
    let inside : c.args.node < length c.args.self.now.edges.items = omega (arith, c.requires.stands.edges_size, c.requires.node) in
    along_edges c.args.self.now.edges.items c.args.node c.index.result.now c.deref-to-items.result.now (asked c.args.members.now) c.args.self.now c.loop-to.self inside c.index.ensures
    (c.deref-to-items.ensures.value ∙ c.in_ok-nexts.ensures.members)
    (front_all (asked c.args.members.now) c.deref-to-items.result.now c.loop-to.to-index c.args.self.now c.loop-to.self c.loop-to-test.false c.loop-to.invariant.met)
