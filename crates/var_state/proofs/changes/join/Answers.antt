use Rattle.std.proofs.Common.{◌≡◌, ℕ, ◌≤◌}
use Rattle.var_state.specs.Grids.{at, greater}
use Rattle.var_state.proofs.Closed.{same_sound, greater_sound}
use Rattle.var_state.proofs.changes.join.Goals as goal

pub returns-clause-sound : goal.returns-clause-sound
returns-clause-sound c =
    let same : (p q : ℕ) → p ≤ c.args.n → q ≤ c.args.n → at c.fill.new.cells.items p q ≡ greater (at c.args.cells.now.items) (at c.args.other.now) p q = λ p q pp qq.
    (let e = c.fill.ensures.each p q pp qq in
    let x = c.copied-old.ensures.each p q in cc) in
    same_sound c.args.n (greater (at c.args.cells.now.items) (at c.args.other.now)) (at c.fill.new.cells.items) same
    (greater_sound c.args.n (at c.args.cells.now.items) (at c.args.other.now) c.requires.sound c.requires.other_sound)
