use Rattle.artifact_codec.specs.Demands.{is_short}
use Rattle.artifact_codec.proofs.Short.{passes_at}
use Rattle.artifact_codec.proofs.writing.push_each_list.Goals as goal

pub push_numbers-requires : goal.push_numbers-requires
push_numbers-requires c = rw (c.deref.ensures.value, c.list-item.is) (passes_at is_short (λ v. v.items) c.args.lists.now c.loop-list.list-index _ c.requires c.loop-list-test.true)
