use Rattle.std.proofs.Common.{sym, map, length, ◌≢◌}
use Rattle.std.proofs.lemmas.List.{length-map}
use Rattle.tables.specs.Shelves.{bytes_in}
use Rattle.tables.proofs.Rows.{other_lengths}
use Rattle.tables.proofs.shelf.is_same.Goals as goal

pub returns-then-before-now : goal.returns-then-before-now
returns-then-before-now c =
    let other : length (map bytes_in c.args.before.now) ≢ length (map bytes_in c.args.now.now) = simp length-map c.if-before-now.true in
    sym (other_lengths (map bytes_in c.args.before.now) (map bytes_in c.args.now.now) other)
