use Rattle.std.proofs.Common.{◌∙◌, ap, arith, length-take}
use Rattle.c_grammar.specs.State.{outer}
use Rattle.c_state.proofs.Logs.{last_name_first, outer_with}
use Rattle.c_state.proofs.scopes.Scopes.declare_all.Goals as goal

pub loop-rest-preserved : goal.loop-rest-preserved
loop-rest-preserved c = record {
  outer = ap outer c.in_ok-declare.ensures.ok ∙ outer_with _ _ c.loop-rest.self ∙ c.loop-rest.invariant.outer;
  names = c.loop-rest.invariant.names ∙ last_name_first _ _ _ _ c.in-len1-up.len_at_least c.in_ok-declare.ensures.ok;
  rest = grind (arith, c.loop-rest.invariant.rest, length-take);
}
