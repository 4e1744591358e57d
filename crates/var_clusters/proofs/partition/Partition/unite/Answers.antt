use Rattle.std.proofs.Common.{◌≡◌, ◌<◌, length, sym, ap, subst, ◌∙◌, length-set, slice_set}
use Rattle.core_ir.specs.Plain.{lists_of}
use Rattle.var_clusters.specs.computed.Partition.{placed}
use Rattle.var_clusters.proofs.Partitions.{united_lists, all_below, item_listed, vec_below}
use Rattle.var_clusters.proofs.partition.Partition.unite.Goals as goal

pub place-requires : goal.place-requires
place-requires c =
    let vecs = c.args.self.now.members.items in
    let firsts = c.args.self.now.firsts.items in
    all_below firsts (lists_of vecs) c.requires.partition c.args.high c.requires.high c.deref.result.now
    (c.deref.ensures.value ∙ ap (λ v. v.items) c.replace-more.ensures.value ∙ item_listed vecs c.args.high c.index_mut.result.now (vec_below firsts vecs c.requires.partition c.args.high c.requires.high) c.index_mut.ensures.value)

pub returns : goal.returns
returns c =
    let vecs = c.args.self.now.members.items in
    let firsts = c.args.self.now.firsts.items in
    let emptied = slice_set vecs c.args.high c.replace-more.new.dest in
    let low_in : c.args.low < length emptied = subst (λ n. c.args.low < n) (sym (length-set vecs c.args.high c.replace-more.new.dest)) (vec_below firsts vecs c.requires.partition c.args.low c.requires.low) in
    united_lists firsts c.place.new.firsts.items vecs c.args.low c.args.high c.replace-more.result c.replace-more.new.dest c.index_mut-2.result.now c.append.new.self
    c.requires.partition c.requires.low c.requires.high c.requires.differ
    (ap (λ v. v.items) c.replace-more.ensures.value ∙ item_listed vecs c.args.high c.index_mut.result.now (vec_below firsts vecs c.requires.partition c.args.high c.requires.high) c.index_mut.ensures.value)
    (ap (λ v. v.items) c.replace-more.ensures.after ∙ c.new.ensures.items)
    (item_listed emptied c.args.low c.index_mut-2.result.now low_in c.index_mut-2.ensures.value)
    c.in_ok-append.ensures.items
    (subst (λ z. c.place.new.firsts.items ≡ placed c.args.low z firsts) c.deref.ensures.value c.place.ensures)
