use Rattle.std.proofs.Common.{◌≡◌, ◌^◌, ◌<◌, ◌-◌, ◌/◌, length, sym, arith}
use Rattle.lease_table.proofs.Tree.{descends-child, descends-inner, descends-end, none_due}
use Rattle.lease_table.proofs.times.first_due.Goals as goal

pub returns-then-not-is_due : goal.returns-then-not-is_due
returns-then-not-is_due c = record { first = none_due c.args.now c.args.height c.args.nodes.now c.requires.tree (rw c.if-not-is_due.true at (sym c.is_due.ensures)) }

pub due_child-at-requires : goal.due_child-at-requires
due_child-at-requires c =
    let inner : c.loop-level.at < 2 ^ c.args.height = descends-inner c.args.now c.args.height c.args.nodes.now c.loop-level.level c.loop-level.at c.loop-level-test.true c.loop-level.invariant in
    omega (arith, c.requires.tree.long)

pub loop-level-preserved : goal.loop-level-preserved
loop-level-preserved c = rw c.due_child-at.ensures (descends-child c.args.now c.args.height c.args.nodes.now c.loop-level.level c.loop-level.at c.loop-level-test.true c.requires.tree c.loop-level.invariant)

pub returns : goal.returns
returns c =
    let half : length c.args.nodes.now / 2 ≡ 2 ^ c.args.height = omega (arith, c.requires.tree.long) in
    record { first = descends-end c.args.now c.args.height c.args.nodes.now c.loop-level.level c.loop-level.at (c.loop-level.at - length c.args.nodes.now / 2) c.loop-level-test.false c.loop-level.invariant (omega arith) }
