use Rattle.std.proofs.Common.{◌≡◌, ◌-◌}
use Rattle.c_reads.specs.Postfix.{texts, texts_from}
use Rattle.c_postfix.proofs.primary.texts.Given as goal

abbrev pub invariant-loop-turn : goal.invariant-loop-turn
invariant-loop-turn l = texts l.fn.bytes l.fn.cursor ≡ texts_from (l._turn-end - l._turn) l.bytes l.cursor
