use Rattle.std.proofs.Common.{◌≡◌, true, is_some, None, rules}
use Rattle.indexmap.specs.IndexMap.{get}
use Rattle.journal.specs.Keys.{same_key}
use Rattle.journal.proofs.Firsts.{noted_before, noted_now, some_none}
use Rattle.journal.proofs.first_bodies.note.Goals as goal

pub returns-then-is_some-clause-noted : goal.returns-then-is_some-clause-noted
returns-then-is_some-clause-noted c = λ entries entry size is before.
    let some : is_some (get same_key c.args.firsts.now c.args.key) ≡ true = search rules in
    noted_before (get same_key c.args.firsts.now) entries entry c.args.key is (some_none (get same_key c.args.firsts.now c.args.key) some) before

pub returns-clause-noted : goal.returns-clause-noted
returns-clause-noted c = λ entries entry size is before.
    let none : get same_key c.args.firsts.now c.args.key ≡ None = search rules in
    noted_now (get same_key c.args.firsts.now) (get same_key c.insert.new.self) entries entry c.args.key c.args.index size is none c.in_ok-insert.ensures.updates.0 before
