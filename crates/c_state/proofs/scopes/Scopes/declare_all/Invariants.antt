use Rattle.std.proofs.Common.{◌≡◌, ◌≤◌, length}
use Rattle.c_grammar.specs.State as state
use Rattle.c_state.specs.Log.{with_names}
use Rattle.c_state.proofs.scopes.Scopes.declare_all.Given as goal

abbrev pub invariant-loop-rest : goal.invariant-loop-rest
invariant-loop-rest l = record {
  outer : state.outer l.self ≡ state.outer l.fn.self;
  names : with_names l.names l.fn.self ≡ with_names l.rest l.self;
  rest : length l.rest ≤ length l.names;
}

abbrev pub decreases-loop-rest : goal.decreases-loop-rest
decreases-loop-rest l = length l.rest
