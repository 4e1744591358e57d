use Rattle.c_grammar.proofs.Fronts.{run_of, begins_by_run}
use Rattle.c_grammar.proofs.laws.beginnings_are_runs.Goals as goal

pub returns-clause-run : goal.returns-clause-run
returns-clause-run c = λ stack s tokens b. let r = run_of b in (r.left, r.end, r.run)

pub returns-clause-beginning : goal.returns-clause-beginning
returns-clause-beginning c = λ stack left s end tokens r. begins_by_run r
