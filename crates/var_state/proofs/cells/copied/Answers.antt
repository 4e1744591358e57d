use Rattle.var_state.proofs.Copying.{copied_start}
use Rattle.var_state.proofs.cells.copied.Goals as goal

pub loop-k-init : goal.loop-k-init
loop-k-init c = copied_start c.args.cells.now.items
