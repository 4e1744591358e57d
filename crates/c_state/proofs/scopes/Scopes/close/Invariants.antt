use Rattle.std.proofs.Common.{◌≡◌, length}
use Rattle.c_grammar.specs.State as state
use Rattle.c_state.proofs.scopes.Scopes.close.Given as goal

abbrev pub invariant-loop-declared : goal.invariant-loop-declared
invariant-loop-declared l = state.outer l.self ≡ state.outer l.fn.self

abbrev pub decreases-loop-declared : goal.decreases-loop-declared
decreases-loop-declared l = length (state.innermost l.self)
