use Rattle.std.proofs.Common.{◌<◌, ◌≡◌, ◌-◌, length, arith}
use Rattle.std.proofs.lemmas.List.{length-map}
use Rattle.tables.proofs.Rows.{put_last, some_row}
use Rattle.tables.proofs.shelf.Shelf.put.Goals as goal

pub returns : goal.returns
returns c =
    let rows = c.self.inside.rows in
    let same : length rows.items ≡ length c.args.self.now.rows = rw (← c.self.view_is) (simp length-map) in
    let some : 0 < length c.args.self.now.rows = some_row c.args.self.now.rows c.args.task c.requires in
    rw (← c.self.view_is) (put_last rows.items (c.len-current.result - 1) c.args.task c.index_mut-row.result.now c.args.artifact c.self.inside.still (omega (arith, rows.ok.0)) c.index_mut-row.ensures.value)
