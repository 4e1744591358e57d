use Rattle.std.proofs.Common.{◌≡◌, ℕ, ◌≤◌, arith}
use mir.Syntax.{w128}
use Rattle.std.proofs.lemmas.Int.{ints, to_z-of_z}
use Rattle.var_state.specs.Grids.{at, placed}
use Rattle.var_state.proofs.Closed.{small_at, same_sound, placed_sound}
use Rattle.var_state.proofs.changes.place.Goals as goal

pub fill-requires-clause-f : goal.fill-requires-clause-f
fill-requires-clause-f c = λ p q pp qq.
    let small = small_at c.args.n (at c.args.cells.now.items) (at c.copied-old.result) c.requires.sound c.copied-old.ensures.each in
    let room = c.requires.room.most in
    (omega arith, omega arith, omega (arith, ints), omega (arith, ints), small p 0 pp (omega arith), small 0 q (omega arith) qq)

pub returns-clause-value : goal.returns-clause-value
returns-clause-value c = λ p q pp qq.
    let low = to_z-of_z w128 c.args.low c.ranges.low in
    let high = to_z-of_z w128 c.args.high c.ranges.high in
    let e = c.fill.ensures.each p q pp qq in
    let x = c.copied-old.ensures.each p q in
    let y = c.copied-old.ensures.each p 0 in
    let z = c.copied-old.ensures.each 0 q in cc

pub returns-clause-sound : goal.returns-clause-sound
returns-clause-sound c =
    let low = to_z-of_z w128 c.args.low c.ranges.low in
    let high = to_z-of_z w128 c.args.high c.ranges.high in
    let same : (p q : ℕ) → p ≤ c.args.n → q ≤ c.args.n → at c.fill.new.cells.items p q ≡ placed c.args.v c.args.low c.args.high (at c.args.cells.now.items) p q = λ p q pp qq.
    (let e = c.fill.ensures.each p q pp qq in
    let x = c.copied-old.ensures.each p q in
    let y = c.copied-old.ensures.each p 0 in
    let z = c.copied-old.ensures.each 0 q in cc) in
    same_sound c.args.n (placed c.args.v c.args.low c.args.high (at c.args.cells.now.items)) (at c.fill.new.cells.items) same
    (placed_sound c.args.n (at c.args.cells.now.items) c.args.v c.args.low c.args.high c.requires.sound c.requires.low_end c.requires.order c.requires.high_end c.requires.variable.0)
