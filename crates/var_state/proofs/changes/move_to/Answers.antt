use Rattle.std.proofs.Common.{◌≡◌, ℕ, ◌≤◌, arith}
use mir.Syntax.{w128}
use Rattle.std.proofs.lemmas.Int.{to_z-of_z}
use Rattle.var_state.specs.Grids.{at, moved}
use Rattle.var_state.proofs.Closed.{small_at, same_sound, moved_sound}
use Rattle.var_state.proofs.changes.move_to.Goals as goal

pub fill-requires-clause-f : goal.fill-requires-clause-f
fill-requires-clause-f c = λ p q pp qq.
    let small = small_at c.args.n (at c.args.cells.now.items) (at c.copied-old.result) c.requires.sound c.copied-old.ensures.each in
    let fits = to_z-of_z w128 c.args.c c.ranges.c in
    let room = c.requires.room.most in
    (omega arith, omega arith, omega arith, rw fits c.requires.small, small p c.args.f pp c.requires.variables.2, small c.args.f q c.requires.variables.2 qq)

pub returns-clause-sound : goal.returns-clause-sound
returns-clause-sound c =
    let fits = to_z-of_z w128 c.args.c c.ranges.c in
    let same : (p q : ℕ) → p ≤ c.args.n → q ≤ c.args.n → at c.fill.new.cells.items p q ≡ moved c.args.v c.args.f c.args.c (at c.args.cells.now.items) p q = λ p q pp qq.
    (let e = c.fill.ensures.each p q pp qq in
    let x = c.copied-old.ensures.each p q in
    let y = c.copied-old.ensures.each p c.args.f in
    let z = c.copied-old.ensures.each c.args.f q in cc) in
    same_sound c.args.n (moved c.args.v c.args.f c.args.c (at c.args.cells.now.items)) (at c.fill.new.cells.items) same
    (moved_sound c.args.n (at c.args.cells.now.items) c.args.v c.args.f c.args.c c.requires.sound c.requires.variables.2 c.requires.high c.requires.low c.requires.variables.0)
