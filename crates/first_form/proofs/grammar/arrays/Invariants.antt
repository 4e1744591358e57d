use Rattle.std.proofs.Common.{◌≡◌, ◌-◌, length}
use Rattle.first_form.specs.computed.Reading.{arrays_at}
use Rattle.first_form.proofs.Loops.{front_of}
use Rattle.first_form.proofs.grammar.arrays.Given as goal

abbrev pub invariant-loop : goal.invariant-loop
invariant-loop l = record {
  turns : l.end ≡ length l.fn.cursor;
  so_far : front_of l.arrays (arrays_at (l.end - l.counter) l.cursor) ≡ arrays_at (length l.fn.cursor) l.fn.cursor;
}
