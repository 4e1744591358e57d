use Rattle.std.proofs.Common.{length, ◌-◌, ◌≡◌, ◌≤◌, ◌+◌, drop, All}
use Rattle.first_form.specs.Pieces.{IsInFile, pieces}
use Rattle.first_form.specs.computed.Scan.{pieces_from}
use Rattle.first_form.proofs.Lexing.{with_front}
use Rattle.first_form.proofs.lexer.lex.Given as goal

abbrev pub invariant-loop-at : goal.invariant-loop-at
invariant-loop-at l = record {
  within : l.at ≤ length l.bytes;
  few_lines : l.line ≤ l.at + 1;
  few_columns : l.col ≤ l.at + 1;
  cut : with_front (pieces l.bytes l.tokens.items) (pieces_from 0 l.line l.col (drop l.at l.bytes)) ≡ pieces_from 0 1 1 l.bytes;
  ranges : All (IsInFile l.bytes) l.tokens.items;
}

abbrev pub decreases-loop-at : goal.decreases-loop-at
decreases-loop-at l = length l.bytes - l.at
