use Rattle.std.proofs.Common.{ap, ◌∙◌}
use Rattle.c_state.specs.Log.{with_names}
use Rattle.c_state.proofs.Logs.{names_alone}
use Rattle.c_state.proofs.scopes.Scopes.open_with.Goals as goal

pub returns-in-Ok-clause-ok : goal.returns-in-Ok-clause-ok
returns-in-Ok-clause-ok c =
    c.in-Ok.ensures.ok ∙ ap (λ s. with_names c.args.names.now s) c.in_ok-open.ensures.ok ∙ names_alone c.args.names.now c.args.self.now
