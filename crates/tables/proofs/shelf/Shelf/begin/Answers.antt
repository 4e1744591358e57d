use Rattle.std.proofs.Common.{◌≡◌, ◌-◌, length, ap, sym, ◌∙◌, arith}
use Rattle.tables.specs.Shelves.{still_of}
use Rattle.tables.proofs.Rows.{begun_few, begun_many}
use Rattle.tables.proofs.shelf.Shelf.begin.Goals as goal

pub returns-then-current-clause-begun : goal.returns-then-current-clause-begun
returns-then-current-clause-begun c =
    let old = c.self.inside in
    let count : c.len-current.result - 1 ≡ length old.rows.items = omega (arith, old.rows.ok.0, c.in_ok-push.ensures.len) in
    rw (← c.self.view_is, c.in_ok-push.ensures.items)
    (begun_many old.rows.items c.in_ok-row.row c.new.result c.args.tasks (c.len-current.result - 1) old.still c.still-still.result c.in_ok-row.ensures c.new.ensures.items count c.if-current.true (c.still-still.ensures ∙ ap still_of (sym c.self.view_is)))

pub returns-else-current-clause-begun : goal.returns-else-current-clause-begun
returns-else-current-clause-begun c =
    let old = c.self.inside in
    let count : c.len-current.result - 1 ≡ length old.rows.items = omega (arith, old.rows.ok.0, c.in_ok-push.ensures.len) in
    rw (← c.self.view_is, c.in_ok-push.ensures.items)
    (begun_few old.rows.items c.in_ok-row.row c.args.tasks (c.len-current.result - 1) old.still c.still-still.result c.in_ok-row.ensures count c.if-current.false (c.still-still.ensures ∙ ap still_of (sym c.self.view_is)))
