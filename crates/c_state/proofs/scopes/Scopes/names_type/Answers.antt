use Rattle.std.proofs.Common.{Some, None, reverse, sym, ap, ◌∙◌}
use Rattle.c_state.specs.Log.{entry}
use Rattle.c_state.proofs.Logs.{looked_up}
use Rattle.c_state.proofs.scopes.Scopes.names_type.Goals as goal

pub returns-in-Some : goal.returns-in-Some
returns-in-Some c =
    looked_up c.self.inside.table.items (reverse c.self.inside.log) c.args.self.now c.args.name (Some c.in-Some.is_typedef) c.self.invariant c.self.view_is
    (sym c.in-Some.is ∙ c.entry_of.ensures ∙ ap (λ t. entry t c.args.name) c.deref.ensures.value)

pub returns-in-None : goal.returns-in-None
returns-in-None c =
    looked_up c.self.inside.table.items (reverse c.self.inside.log) c.args.self.now c.args.name None c.self.invariant c.self.view_is
    (sym c.in-None.is ∙ c.entry_of.ensures ∙ ap (λ t. entry t c.args.name) c.deref.ensures.value)
