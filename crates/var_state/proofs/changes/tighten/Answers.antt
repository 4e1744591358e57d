use Rattle.std.proofs.Common.{◌≤ℤ◌, arith}
use mir.Syntax.{w128}
use Rattle.std.proofs.lemmas.Int.{ints, to_z-of_z}
use Rattle.var_state.specs.Grids.{at}
use Rattle.var_state.proofs.Closed.{small, over_same}
use Rattle.var_state.proofs.changes.tighten.Goals as goal

pub returns-then-read-c-clause-value : goal.returns-then-read-c-clause-value
returns-then-read-c-clause-value c = λ e p q pp qq.
    let v = c.read.ensures.value in
    let h : at c.args.cells.now.items c.args.i c.args.j ≤ℤ c.args.c = omega (arith, ints) in
    over_same c.args.n (at c.args.cells.now.items) c.args.i c.args.j c.args.c c.requires.sound c.requires.places.0 c.requires.places.1 h p q pp qq

pub negation-least-requires : goal.negation-least-requires
negation-least-requires c =
    let h = (small c.args.n (at c.args.cells.now.items) c.requires.sound).each c.args.j c.args.i c.requires.places.1 c.requires.places.0 in
    let e = c.read-2.ensures.value in
    let fits = to_z-of_z w128 c.read-2.result (record { sfits = c.read-2.type_inv }) in
    record { a = rw (fits, e) (omega (arith, h)) }

pub relax_over-requires-clause-small : goal.relax_over-requires-clause-small
relax_over-requires-clause-small c =
    let h = (small c.args.n (at c.args.cells.now.items) c.requires.sound).each c.args.j c.args.i c.requires.places.1 c.requires.places.0 in
    let k = (small c.args.n (at c.args.cells.now.items) c.requires.sound).each c.args.i c.args.j c.requires.places.0 c.requires.places.1 in
    let fits = to_z-of_z w128 c.args.c c.ranges.c in
    rw fits (omega (arith, ints))

pub returns-clause-value : goal.returns-clause-value
returns-clause-value c = λ e p q pp qq.
    let fits = to_z-of_z w128 c.args.c c.ranges.c in
    let h = c.relax_over.ensures.value p q pp qq in cc
