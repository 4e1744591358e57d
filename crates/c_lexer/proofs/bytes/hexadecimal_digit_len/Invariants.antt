use Rattle.std.proofs.Common.{◌≡◌, ◌+◌, drop}
use Rattle.std.specs.List.{prefix_len}
use Rattle.c_lexer.specs.Bytes.{is_hexadecimal}
use Rattle.c_lexer.proofs.bytes.hexadecimal_digit_len.Given as goal

abbrev pub invariant-loop-i : goal.invariant-loop-i
invariant-loop-i l = l.i + prefix_len is_hexadecimal (drop l.i l.bytes) ≡ prefix_len is_hexadecimal l.bytes
