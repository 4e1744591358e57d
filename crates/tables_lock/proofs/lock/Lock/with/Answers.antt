use Rattle.std.proofs.Common.{refl, sym, ◌∙◌, ap}
use Rattle.std.specs.Fn.{FnOnceReturnsAtMut}
use Rattle.tables_lock.proofs.lock.Lock.with.Goals as goal

pub give_back-requires-clause-opening : goal.give_back-requires-clause-opening
give_back-requires-clause-opening g c κs within =
    let ran : FnOnceReturnsAtMut g.F.FnOnce c.args.step c.take-tables.result c.step-answer.result c.step-answer.new.arg2 = record { shown = _; shows = refl; left = _; met = c.step-answer.ensures; leaves = refl } in
    (c.requires.keeps c.take-tables.result c.step-answer.new.arg2 c.step-answer.result c.take-tables.ensures.opening c.take-tables.ensures.sound ran).0
    ∙ sym (ap (λ v. v.opening) c.take-tables.ensures.holding.0)

pub give_back-requires-clause-sound : goal.give_back-requires-clause-sound
give_back-requires-clause-sound g c κs within =
    let ran : FnOnceReturnsAtMut g.F.FnOnce c.args.step c.take-tables.result c.step-answer.result c.step-answer.new.arg2 = record { shown = _; shows = refl; left = _; met = c.step-answer.ensures; leaves = refl } in
    (c.requires.keeps c.take-tables.result c.step-answer.new.arg2 c.step-answer.result c.take-tables.ensures.opening c.take-tables.ensures.sound ran).1

pub returns-clause-ran : goal.returns-clause-ran
returns-clause-ran g c =
    (c.take-tables.result, c.step-answer.new.arg2, c.take-tables.ensures.opening, c.take-tables.ensures.sound, record { shown = _; shows = refl; left = _; met = c.step-answer.ensures; leaves = refl })
