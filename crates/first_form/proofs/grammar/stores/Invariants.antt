use Rattle.std.proofs.Common.{◌≡◌, ◌-◌, length}
use Rattle.first_form.specs.computed.Reading.{stores_at}
use Rattle.first_form.proofs.Loops.{front_of}
use Rattle.first_form.proofs.grammar.stores.Given as goal

abbrev pub invariant-loop : goal.invariant-loop
invariant-loop l = record {
  turns : l.end ≡ length l.fn.cursor;
  so_far : front_of l.stores (stores_at (l.end - l.counter) l.names l.cursor) ≡ stores_at (length l.fn.cursor) l.names l.fn.cursor;
}
