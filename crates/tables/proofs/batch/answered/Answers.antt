use Rattle.std.proofs.Common.{get_or, arith}
use Rattle.lease_table.proofs.Mapped.{map_more, drop_more}
use Rattle.tables.specs.Batches.{instead}
use Rattle.tables.specs.declared.publish.Publish.TheVariants.{Stored}
use Rattle.tables.proofs.batch.answered.Goals as goal

pub loop-each-preserved : goal.loop-each-preserved
loop-each-preserved c =
    let l = c.loop-each in
    rw c.instead.ensures (record {
      done = map_more (instead c.args.answer) l.each-items c.args.answers.items l.each-index Stored (omega arith) (rw c.deref_mut-each-items.ensures.value at c.loop-each-test.true) l.invariant.done l.invariant.left;
      left = drop_more l.each-items c.args.answers.items l.each-index (instead c.args.answer (get_or l.each-items l.each-index Stored)) l.invariant.left;
    })
