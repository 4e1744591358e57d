use Rattle.var_clusters.proofs.Pushes.{loop_pushed}
use Rattle.var_clusters.proofs.pairs.push_step_pairs.Goals as goal

pub returns-in-Loop : goal.returns-in-Loop
returns-in-Loop c = loop_pushed c.push_loop_pairs.result c.push_loop_pairs.new.pairs.items c.args.pairs.now.items c.args.f.now.registers.items c.deref-in-Loop.result.now c.args.f.now.result c.args.step.now c.in-Loop.body c.deref-in-Loop-2.result.now c.in-Loop.is c.deref-in-Loop.ensures.value c.deref-in-Loop-2.ensures.value c.push_loop_pairs.ensures
