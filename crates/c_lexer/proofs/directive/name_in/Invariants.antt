use Rattle.std.proofs.Common.{◌≡◌, drop, false}
use Rattle.c_lexer.specs.computed.Settings.{with_bytes, name_in}
use Rattle.c_lexer.proofs.directive.name_in.Given as goal

abbrev pub invariant-loop-i : goal.invariant-loop-i
invariant-loop-i l = with_bytes l.name (name_in l.escaped (drop l.i l.text)) ≡ name_in false l.text
