use Rattle.std.proofs.Common.{◌≡◌, ◌<◌, length, IfOk, sym, ap, subst, ◌∙◌}
use Rattle.core_ir.specs.Plain.{lists_of}
use Rattle.var_clusters.specs.Clusters.{clusters_of}
use Rattle.var_clusters.proofs.Fits.{found_fit}
use Rattle.var_clusters.proofs.Placings.{final_length, all_firsts, gathered_is}
use Rattle.var_clusters.proofs.gathering.clusters.Goals as goal
use Rattle.var_clusters.proofs.gathering.clusters.Goals.{After-drop-pairs-2}

pub gathered-requires-clause-short : goal.gathered-requires-clause-short
gathered-requires-clause-short c =
    let long : length c.deref-2.result.now ≡ length c.args.f.now.registers.items = ap length c.deref-2.ensures.value ∙ final_length c.in_ok-partition.partition.firsts.items c.deref.result.now c.len.result c.in_ok-partition.ensures.1 ∙ (c.len.ensures ∙ c.args.f.now.registers.ok.0) in
    subst (λ n. n < 4294967296) (sym long) c.requires

pub gathered-requires-clause-below : goal.gathered-requires-clause-below
gathered-requires-clause-below c = all_firsts c.in_ok-partition.partition.firsts.items (lists_of c.in_ok-partition.partition.members.items) c.deref-2.result.now c.in_ok-partition.ensures.0 c.deref-2.ensures.value

exact : (c : After-drop-pairs-2) → IfOk c.kept.result (λ found. lists_of found.items ≡ clusters_of c.args.f.now)
exact c =
    subst (λ z. IfOk c.kept.result (λ found. lists_of found.items ≡ z))
    (gathered_is c.args.f.now c.in_ok-partition.partition.firsts.items c.deref-2.result.now c.len.result c.deref.result.now (lists_of c.in_ok-lists.lists.items)
    (c.deref.ensures.value ∙ c.in_ok-pairs.ensures) (c.len.ensures ∙ c.args.f.now.registers.ok.0) c.in_ok-partition.ensures.1 c.deref-2.ensures.value c.in_ok-lists.ensures)
    c.kept.ensures

pub returns-clause-exact : goal.returns-clause-exact
returns-clause-exact c = exact c

pub returns-clause-fits : goal.returns-clause-fits
returns-clause-fits c = found_fit c.kept.result c.args.f.now (exact c)
