use Rattle.std.proofs.Common.{IfOk, sym, subst}
use Rattle.points_to.specs.Fits.{Fits}
use Rattle.round_tasks.specs.Tasks.{AreLeastSets, IsComputed, nodes_of}
use Rattle.round_tasks.proofs.tasks.artifact.Goals as goal

pub returns-in-Solution-clause-exact : goal.returns-in-Solution-clause-exact
returns-in-Solution-clause-exact c =
    let core = c.args.core.now in
    subst (λ basis. IfOk c.solution.result (λ bytes. IsComputed core c.args.task basis bytes.items)) (sym c.in-Solution.is) (subst (λ all. IfOk c.solution.result (λ bytes. Fits (nodes_of core) all core.classes → AreLeastSets core all bytes.items)) c.deref.ensures.value c.solution.ensures.exact)
