use Rattle.std.proofs.Common.{◌∙◌, refl, arith, ◌≡◌, ℕ, ◌≤◌, ◌-ℤ◌}
use mir.Syntax.{w128}
use Rattle.std.proofs.lemmas.Int.{ints, clamps, to_z-of_z}
use Rattle.var_state.specs.Grids.{at, over}
use Rattle.var_state.proofs.Closed.{over_cong, moved_cong}
use Rattle.var_state.proofs.changes.set_sum.Goals as goal

pub move_to-requires-clause-high : goal.move_to-requires-clause-high
move_to-requires-clause-high c =
    let f = c.requires.variables.2 in
    let a = c.tighten.ensures.value c.if-not-tighten.false 0 c.args.from (omega arith) f in
    let b = c.tighten-2.ensures.value c.if-not-tighten-2.false 0 c.args.from (omega arith) f in
    let z = c.requires.sound.closed.zero 0 (omega arith) in
    let y = c.requires.sound.closed.zero c.args.from f in
    let most = to_z-of_z w128 c.difference-most.result (record { sfits = c.difference-most.type_inv }) in
    let high = to_z-of_z w128 c.args.range.high (record { sfits = omega (arith, ints) }) in
    let is = c.difference-most.ensures.value in
    omega (arith, ints, clamps)

pub move_to-requires-clause-low : goal.move_to-requires-clause-low
move_to-requires-clause-low c =
    let f = c.requires.variables.2 in
    let b = c.tighten-2.ensures.value c.if-not-tighten-2.false c.args.from 0 f (omega arith) in
    let z = c.tighten.ensures.sound.closed.zero 0 (omega arith) in
    let y = c.tighten.ensures.sound.closed.zero c.args.from f in
    let least = to_z-of_z w128 c.difference-least.result (record { sfits = c.difference-least.type_inv }) in
    let low = to_z-of_z w128 c.args.range.low (record { sfits = omega (arith, ints) }) in
    let is = c.difference-least.ensures.value in
    omega (arith, ints, clamps)

pub returns-clause-value : goal.returns-clause-value
returns-clause-value c = λ t p q pp qq.
    let f = c.requires.variables.2 in
    let n = c.args.n in
    let old = at c.args.cells.now.items in
    let cf = to_z-of_z w128 c.args.c c.ranges.c in
    let hf = to_z-of_z w128 c.args.range.high (record { sfits = omega (arith, ints) }) in
    let lf = to_z-of_z w128 c.args.range.low (record { sfits = omega (arith, ints) }) in
    let mf = to_z-of_z w128 c.difference-most.result (record { sfits = c.difference-most.type_inv }) in
    let kf = to_z-of_z w128 c.difference-least.result (record { sfits = c.difference-least.type_inv }) in
    let most : c.difference-most.result ≡ c.args.range.high -ℤ c.args.c = c.difference-most.ensures.value ∙ (rw (hf, cf) refl) in
    let least : c.difference-least.result ≡ c.args.c -ℤ c.args.range.low = c.difference-least.ensures.value ∙ (rw (cf, lf) refl) in
    let first : (i j : ℕ) → i ≤ n → j ≤ n → at c.tighten.new.cells.items i j ≡ over 0 c.args.from (c.args.range.high -ℤ c.args.c) old i j =
    λ i j ii jj. (let a = c.tighten.ensures.value c.if-not-tighten.false i j ii jj in a ∙ (rw (mf, most) refl)) in
    let second : (i j : ℕ) → i ≤ n → j ≤ n → at c.tighten-2.new.cells.items i j ≡ over c.args.from 0 (c.args.c -ℤ c.args.range.low) (over 0 c.args.from (c.args.range.high -ℤ c.args.c) old) i j =
    λ i j ii jj. (let a = c.tighten-2.ensures.value c.if-not-tighten-2.false i j ii jj in
    a ∙ (rw (kf, least) (over_cong n (at c.tighten.new.cells.items) (over 0 c.args.from (c.args.range.high -ℤ c.args.c) old) first c.args.from 0 (c.args.c -ℤ c.args.range.low) f (omega arith) i j ii jj))) in
    let a = c.move_to.ensures.value p q pp qq in
    a ∙ (rw cf (moved_cong n (at c.tighten-2.new.cells.items) (over c.args.from 0 (c.args.c -ℤ c.args.range.low) (over 0 c.args.from (c.args.range.high -ℤ c.args.c) old)) second c.args.to c.args.from c.args.c f p q pp qq))
