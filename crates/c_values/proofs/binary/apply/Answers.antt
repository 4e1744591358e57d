use Rattle.std.proofs.Common.{◌≡◌, Ok}
use mir.Syntax.{w128}
use Rattle.std.proofs.lemmas.Int.{to_z-of_z}
use Rattle.c_values.specs.Operators.{applied}
use Rattle.c_values.proofs.Results.{applied_is_of}
use Rattle.c_values.proofs.binary.apply.Goals as goal

pub returns-clause-range : goal.returns-clause-range
returns-clause-range c v e =
    let f = to_z-of_z w128 c.args.a c.ranges.a in
    let g = to_z-of_z w128 c.args.b c.ranges.b in
    let value : applied c.args.op c.args.t c.args.a c.args.b ≡ Ok v = cc in
    applied_is_of c.args.op c.args.t c.args.a c.args.b v c.requires.a c.requires.b value
