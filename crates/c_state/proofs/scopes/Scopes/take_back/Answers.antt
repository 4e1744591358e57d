use Rattle.c_state.proofs.Logs.{declared_within, latest_declared}
use Rattle.c_state.proofs.scopes.Scopes.take_back.Goals as goal

pub put-requires : goal.put-requires
put-requires c =
    declared_within _ _ _ (latest_declared _ _ _ _ _ c.self.invariant c.in-Some-Declared.ensures c.in-Some-Declared.field-0-is)
