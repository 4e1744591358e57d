use Rattle.std.proofs.Common.{◌≡◌, ◌≤◌, ◌-◌, length}
use Rattle.c_lexer.specs.Spots.{IsWithin}
use Rattle.c_lexer.specs.computed.Scan.{run, joined, Extends}
use Rattle.c_lexer.proofs.lexer.tokens_from.Given as goal

abbrev pub invariant-loop-turn : goal.invariant-loop-turn
invariant-loop-turn l = record {
  so_far : joined l.list (run (l._turn-end - l._turn) l.names l.spot l.rest) ≡ run (length l.fn.bytes) l.fn.names l.fn.start l.fn.bytes;
  left : length l.rest ≤ l._turn-end - l._turn;
  within : IsWithin l.spot (length l.rest);
  kept : Extends l.fn.names l.names;
}
