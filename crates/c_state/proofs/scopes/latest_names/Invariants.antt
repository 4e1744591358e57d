use Rattle.std.proofs.Common.{◌≡◌, ◌≤◌, ◌++◌, length, reverse}
use Rattle.c_grammar.specs.State as state
use Rattle.c_state.specs.Log.{scopes_of}
use Rattle.c_state.proofs.scopes.latest_names.Given as goal

abbrev pub invariant-loop-rest : goal.invariant-loop-rest
invariant-loop-rest l = record {
  names : state.innermost (scopes_of (reverse l.log)) ≡ l.names ++ state.innermost (scopes_of (reverse l.rest));
  rest : length l.rest ≤ length l.log;
}

abbrev pub decreases-loop-rest : goal.decreases-loop-rest
decreases-loop-rest l = length l.rest
