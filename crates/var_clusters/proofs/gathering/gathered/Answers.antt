use Rattle.std.proofs.Common.{◌<◌, length, take, slice_index, refl, sym, subst}
use Rattle.var_clusters.proofs.Placings.{gathered_more, index_inside}
use Rattle.var_clusters.proofs.gathering.gathered.Goals as goal

pub index_mut-requires : goal.index_mut-requires
index_mut-requires c =
    let firsts = c.args.firsts.now in
    let inside : slice_index firsts c.loop-r.r < length c.loop-r.lists.items = index_inside firsts (take c.loop-r.r firsts) c.loop-r.lists.items (slice_index firsts c.loop-r.r) c.loop-r.invariant (c.requires.below c.loop-r.r 0 c.loop-r-test.true) in
    subst (λ n. slice_index firsts c.loop-r.r < n) (sym c.loop-r.lists.ok.0) inside

pub loop-r-preserved : goal.loop-r-preserved
loop-r-preserved c =
    let firsts = c.args.firsts.now in
    gathered_more firsts c.loop-r.lists.items c.index_mut.result.now c.push.new.self c.loop-r.r (slice_index firsts c.loop-r.r) c.loop-r-test.true refl (c.requires.below c.loop-r.r 0 c.loop-r-test.true) c.loop-r.invariant c.index_mut.ensures.value c.in_ok-push.ensures.items
