use Rattle.std.proofs.Common.{arith}
use mir.Syntax.{w128}
use Rattle.std.proofs.lemmas.Int.{ints, to_z-of_z}
use Rattle.var_state.specs.Grids.{at}
use Rattle.var_state.proofs.Closed.{has_ends}
use Rattle.var_state.proofs.changes.bounds_of.Goals as goal

pub negation-low-requires : goal.negation-low-requires
negation-low-requires c =
    let h = has_ends c.args.n (at c.args.cells.now.items) c.requires.sound c.args.v c.requires.place in
    let e = c.read.ensures.value in
    let fits = to_z-of_z w128 c.read.result (record { sfits = c.read.type_inv }) in
    record { a = rw (fits, e) h.near }

pub invariant_of-result : goal.invariant_of-result
invariant_of-result c =
    let h = has_ends c.args.n (at c.args.cells.now.items) c.requires.sound c.args.v c.requires.place in
    record { low_end = omega (arith, ints); order = omega (arith, ints); high_end = omega (arith, ints) }
