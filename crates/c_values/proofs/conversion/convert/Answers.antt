use mir.Syntax.{w128}
use Rattle.std.proofs.lemmas.Int.{to_z-of_z}
use Rattle.c_values.proofs.Conversions.{wrapped_congruent}
use Rattle.c_values.proofs.conversion.convert.Goals as goal

pub returns-clause-congruent : goal.returns-clause-congruent
returns-clause-congruent c h =
    rw (to_z-of_z w128 c.wrap.result (record { sfits = c.wrap.type_inv }), c.wrap.ensures.value, to_z-of_z w128 c.args.v c.ranges.v)
    (wrapped_congruent c.args.t c.args.v)
