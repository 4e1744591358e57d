use Rattle.std.proofs.Common.{ℕ, Option, get_or, subst, arith}
use Rattle.points_to.specs.computed.Progress.{IsMet}
use Rattle.points_to.specs.Rules.{pointer_node}
use Rattle.points_to.proofs.Links.{AskedEdge, like_more, like_all}
use Rattle.points_to.proofs.linking.take_like.Goals as goal

pub loop-place-preserved : goal.loop-place-preserved
loop-place-preserved c =
    let t = c.args.classes.now in
    let targets = c.args.targets.now in
    let sources = c.args.sources.now in
    let i = c.loop-place.place in
    like_more t targets sources i c.args.found.now c.loop-place.found c.link_found.new.found
    (omega (arith, c.loop-place-test.true, c.min-place-end.ensures)) (omega (arith, c.loop-place-test.true, c.min-place-end.ensures)) c.loop-place.invariant
    (subst (λ (from : Option ℕ). IsMet (AskedEdge from (pointer_node t (get_or targets i 0))) c.loop-place.found c.link_found.new.found) c.pointer-from.ensures
    (subst (λ (to : Option ℕ). IsMet (AskedEdge c.pointer-from.result to) c.loop-place.found c.link_found.new.found) c.pointer-to.ensures c.in_ok-link_found.ensures))

pub returns : goal.returns
returns c = like_all c.args.classes.now c.args.targets.now c.args.sources.now c.loop-place.place c.args.found.now c.loop-place.found (omega (arith, c.loop-place-test.false, c.min-place-end.ensures)) c.loop-place.invariant
